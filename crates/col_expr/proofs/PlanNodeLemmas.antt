-- What is found of a node, from what is found of its operands; and how plans keep their order.
use Rattle.std.proofs.Common.{◌≡◌, ℕ, zero, suc, ◌+◌, ◌≤◌, ◌<◌, List, [], ◌∷◌, Bool, true, false, ◌&&◌, Option, Some, None, refl, sym, ap, ◌∙◌, subst, arith, Ordering, Less, Equal, Greater}
use Rattle.std.specs.Prelude.{slice_get, nat_lt, IfSome}
use Rattle.std.specs.List.{All}
use Rattle.std.specs.Option.{option_map, ok_or}
use Rattle.std.specs.Result.{result_ok}
use Rattle.std.specs.Map.{keys_of}
use Rattle.std.specs.BTreeMap.{insert_entry, is_at}
use Rattle.std.specs.Ordering.{nat_cmp, is_lt, match_ordering}
use Rattle.std.proofs.lemmas.List.Elements.{All-head, All-tail, All-cons}
use Rattle.std.proofs.lemmas.Map.Entries.{All-lookup}
use Rattle.std.proofs.lemmas.Bool.Decides.{nat_tests}
use Rattle.std.proofs.lemmas.Bool.{and_from}
use Rattle.col_types.specs.declared.data_type.DataType.{DataType}
use Rattle.col_types.specs.declared.operator.BinOp.{BinOp}
use Rattle.col_types.specs.declared.error.PolarsError.{PolarsError}
use Rattle.col_model.specs.Arithmetic.{Interval}
use Rattle.col_model.specs.Column.{Column}
use Rattle.col_model.specs.Chunked.{Chunked, column_of, columns_of}
use Rattle.col_model.specs.IntervalRoom.{IsOrdered}
use Rattle.col_model.specs.OperatorTable.{OperatorRule}
use Rattle.col_model.specs.RuleIntervals.{typed_interval}
use Rattle.col_expr.specs.declared.node.UnaryOp.{UnaryOp}
use Rattle.col_expr.specs.declared.node.UnaryOp.TheVariants as operations
use Rattle.col_expr.specs.declared.part.Part.{Part}
use Rattle.col_expr.specs.Tree.{Tree, Input, Binary, node_count}
use Rattle.col_expr.specs.Numbers.{Numbers, One, number_at, numbers_from}
use Rattle.col_expr.specs.Node.{over}
use Rattle.col_expr.specs.Meaning.{dtype_of, rule_dtype}
use Rattle.col_expr.specs.Plan.{Plan, interval_in, covering, bound_by, bound_of, image_by, image_of, rule_formula, keeps_rule, rule_holds, rules_hold, ends_before}
use Rattle.col_expr.specs.PlanNode.{operation_dtype, operation_image, pair_dtype, pair_image, keeps_image, keeps_column, part_dtype, part_bound, image_dtype, image_interval, IsSettledBy, IsPart, IsChecked, IsInput, IsCoverOrdered}

-- ---- plans

-- a plan ends before a number that is past its last
pub ends_all : (plan : Plan) (last count : ℕ) → All (λ q. is_lt (nat_cmp last q) ≡ false) (keys_of plan) → last < count → ends_before plan count ≡ true
ends_all [] last count all h = refl
ends_all (covered ∷ plan) last count all h =
    let P : ℕ → Type 0 = λ q. is_lt (nat_cmp last q) ≡ false in
    let first : is_lt (nat_cmp last covered.0) ≡ false = All-head P covered.0 (keys_of plan) all in
    let below : covered.0 ≤ last = not_less last covered.0 first in
    let here : nat_lt covered.0 count ≡ true = grind (arith, nat_tests) in
    and_from _ _ here (ends_all plan last count (All-tail P covered.0 (keys_of plan) all) h)
  where
    not_less : (m n : ℕ) → is_lt (nat_cmp m n) ≡ false → n ≤ m
    not_less m n e = grind (arith, nat_tests)

-- and not before one that is not past one of its own
pub ends_none : (plan : Plan) (i last count : ℕ) (range : Interval) → slice_get plan i ≡ Some (last, range) → nat_lt last count ≡ false → ends_before plan count ≡ false
ends_none [] i last count range at h = cc
ends_none (covered ∷ plan) zero last count range at h =
    let same : covered ≡ (last, range) = cc in
    ap (λ (c : ℕ × Interval). nat_lt c.0 count && ends_before plan count) same ∙ ap (λ b. b && ends_before plan count) h
ends_none (covered ∷ plan) (suc i) last count range at h =
    ap (λ b. nat_lt covered.0 count && b) (ends_none plan i last count range at h) ∙ and-false (nat_lt covered.0 count)
  where
    and-false : (b : Bool) → (b && false) ≡ false
    and-false true = refl
    and-false false = refl

pub ends-last : (plan : Plan) (i last count : ℕ) (range : Interval) → All (λ q. is_lt (nat_cmp last q) ≡ false) (keys_of plan) → slice_get plan i ≡ Some (last, range) → nat_lt last count ≡ ends_before plan count
ends-last plan i last count range all at = go (nat_lt last count) refl
  where
    go : (b : Bool) → nat_lt last count ≡ b → b ≡ ends_before plan count
    go true e = let below : last < count = grind (arith, nat_tests) in sym (ends_all plan last count all below)
    go false e = sym (ends_none plan i last count range at e)

-- a further interval in order
pub put_ordered : (plan : Plan) (node : ℕ) (range : Interval) → All IsCoverOrdered plan → IsOrdered range → All IsCoverOrdered (covering plan node range)
put_ordered [] node range all h = All-cons IsCoverOrdered (node, range) [] h all
put_ordered (covered ∷ plan) node range all h = go (nat_cmp node covered.0) (put_ordered plan node range (All-tail IsCoverOrdered covered plan all) h)
  where
    go : (o : Ordering) → All IsCoverOrdered (insert_entry nat_cmp plan node range)
        → All IsCoverOrdered (match_ordering o ((node, range) ∷ covered ∷ plan) ((covered.0, range) ∷ plan) (covered ∷ insert_entry nat_cmp plan node range))
    go Less rest = All-cons IsCoverOrdered (node, range) (covered ∷ plan) h all
    go Equal rest = All-cons IsCoverOrdered (covered.0, range) plan h (All-tail IsCoverOrdered covered plan all)
    go Greater rest = All-cons IsCoverOrdered covered (insert_entry nat_cmp plan node range) (All-head IsCoverOrdered covered plan all) rest

-- what is looked up is in order
pub looked_up : (plan : Plan) (node : ℕ) (range : Interval) → All IsCoverOrdered plan → interval_in plan node ≡ Some range → IsOrdered range
looked_up plan node range all e =
    let found : IfSome (interval_in plan node) IsOrdered = All-lookup IsOrdered (is_at (nat_cmp node)) plan all in
    let P : Option Interval → Type 0 = λ o. IfSome o IsOrdered in
    subst P e found

-- ---- operators

pub pair_typed : (rule : Option OperatorRule) (refusal : PolarsError) (p q : Interval) → image_dtype (typed_interval rule p q) ≡ rule_dtype (result_ok (ok_or rule refusal))
pair_typed None refusal p q = refl
pair_typed (Some rule) refusal p q = refl

pub pair_imaged : (rule : Option OperatorRule) (refusal : PolarsError) (p q : Interval) → IfSome (typed_interval rule p q) (λ typed. typed.1 ≡ image_by (rule_formula (result_ok (ok_or rule refusal))) (Some p) (Some q))
pair_imaged None refusal p q = tt
pair_imaged (Some rule) refusal p q = refl

-- ---- a node

-- without a type the image says nothing
keeps-untyped : (planned : Option Interval) (p q : Option Interval) → keeps_image planned None p ≡ keeps_image planned None q
keeps-untyped None p q = refl
keeps-untyped (Some range) p q = refl

keeps-same : (planned : Option Interval) (dtype : Option DataType) (image : Option (DataType × Option Interval)) (p : Option Interval) → image_dtype image ≡ dtype → IfSome image (λ typed. typed.1 ≡ p) → keeps_image planned dtype p ≡ keeps_image planned (image_dtype image) (image_interval image)
keeps-same planned dtype None p e h = ap (λ d. keeps_image planned d p) (sym e) ∙ keeps-untyped planned p None
keeps-same planned dtype (Some typed) p e h = ap (λ d. keeps_image planned d p) (sym e) ∙ ap (keeps_image planned (Some typed.0)) (sym h)

-- what is settled of a node is what its check answers
settle : (inputs : List Column) (plan : Plan) (numbers : Numbers) (tree : Tree) (planned : Option Interval) (image : Option (DataType × Option Interval)) (p : Option Interval) (result : Option Part)
    → planned ≡ interval_in plan (number_at numbers) → rules_hold inputs plan numbers tree ≡ keeps_image planned (dtype_of inputs tree) p
    → image_dtype image ≡ dtype_of inputs tree → IfSome image (λ typed. typed.1 ≡ p) → IsSettledBy planned image result → IsChecked inputs plan numbers tree result
settle inputs plan numbers tree planned image p None at rules typed imaged settled =
    rules ∙ keeps-same planned (dtype_of inputs tree) image p typed imaged ∙ settled
settle inputs plan numbers tree planned image p (Some part) at rules typed imaged settled = record {
  typed = settled.typed ∙ typed;
  bounded = settled.bounded ∙ ap (bound_by planned) typed ∙ ap (λ o. bound_by o (dtype_of inputs tree)) at;
  held = rules ∙ keeps-same planned (dtype_of inputs tree) image p typed imaged ∙ settled.held;
  known = settled.known;
}

-- the rule of a node that is no input, by its image
rule-cast : (inputs : List Column) (plan : Plan) (numbers : Numbers) (op : UnaryOp) (e : Tree) (planned : Option Interval) → keeps_rule inputs plan numbers (over op e) planned ≡ keeps_image planned (dtype_of inputs (over op e)) (image_of inputs plan numbers (over op e))
rule-cast inputs plan numbers (operations.Cast t o) e None = refl
rule-cast inputs plan numbers (operations.Cast t o) e (Some range) = refl
rule-cast inputs plan numbers (operations.ScalarRight op k) e None = refl
rule-cast inputs plan numbers (operations.ScalarRight op k) e (Some range) = refl
rule-cast inputs plan numbers (operations.ScalarLeft k op) e None = refl
rule-cast inputs plan numbers (operations.ScalarLeft k op) e (Some range) = refl
rule-cast inputs plan numbers (operations.InUnit u) e None = refl
rule-cast inputs plan numbers (operations.InUnit u) e (Some range) = refl
rule-cast inputs plan numbers (operations.Shift p) e None = refl
rule-cast inputs plan numbers (operations.Shift p) e (Some range) = refl

rules-over : (inputs : List Column) (plan : Plan) (first : ℕ) (op : UnaryOp) (e : Tree) → rules_hold inputs plan (numbers_from first (over op e)) (over op e) ≡ (rules_hold inputs plan (numbers_from first e) e && rule_holds inputs plan (numbers_from first (over op e)) (over op e))
rules-over inputs plan first (operations.Cast t o) e = refl
rules-over inputs plan first (operations.ScalarRight op k) e = refl
rules-over inputs plan first (operations.ScalarLeft k op) e = refl
rules-over inputs plan first (operations.InUnit u) e = refl
rules-over inputs plan first (operations.Shift p) e = refl

number-over : (first : ℕ) (op : UnaryOp) (e : Tree) → number_at (numbers_from first (over op e)) ≡ first + node_count e
number-over first (operations.Cast t o) e = refl
number-over first (operations.ScalarRight op k) e = refl
number-over first (operations.ScalarLeft k op) e = refl
number-over first (operations.InUnit u) e = refl
number-over first (operations.Shift p) e = refl

pub dtype-over : (inputs : List Column) (op : UnaryOp) (e : Tree) → dtype_of inputs (over op e) ≡ operation_dtype op (dtype_of inputs e)
dtype-over inputs (operations.Cast t o) e = refl
dtype-over inputs (operations.ScalarRight op k) e = refl
dtype-over inputs (operations.ScalarLeft k op) e = refl
dtype-over inputs (operations.InUnit u) e = refl
dtype-over inputs (operations.Shift p) e = refl

image-over : (inputs : List Column) (plan : Plan) (first : ℕ) (op : UnaryOp) (e : Tree) → image_of inputs plan (numbers_from first (over op e)) (over op e) ≡ operation_image op (dtype_of inputs e) (bound_of inputs plan (numbers_from first e) e)
image-over inputs plan first (operations.Cast t o) e = refl
image-over inputs plan first (operations.ScalarRight op k) e = refl
image-over inputs plan first (operations.ScalarLeft k op) e = refl
image-over inputs plan first (operations.InUnit u) e = refl
image-over inputs plan first (operations.Shift p) e = refl

pub unary_checked : (inputs : List Column) (plan : Plan) (first number : ℕ) (op : UnaryOp) (e : Tree) (part : Part) (planned : Option Interval) (image : Option (DataType × Option Interval)) (result : Option Part)
    → number ≡ first + node_count e → IsPart inputs plan (numbers_from first e) e part → planned ≡ interval_in plan number
    → image_dtype image ≡ operation_dtype op (part_dtype part) → IfSome image (λ typed. typed.1 ≡ operation_image op (part_dtype part) (part_bound part))
    → IsSettledBy planned image result → IsChecked inputs plan (numbers_from first (over op e)) (over op e) result
unary_checked inputs plan first number op e part planned image result is part_is at typed imaged settled =
    let numbers = numbers_from first (over op e) in
    let here : planned ≡ interval_in plan (number_at numbers) = at ∙ ap (interval_in plan) (is ∙ sym (number-over first op e)) in
    let rules : rules_hold inputs plan numbers (over op e) ≡ keeps_image planned (dtype_of inputs (over op e)) (operation_image op (part_dtype part) (part_bound part)) =
    rules-over inputs plan first op e
    ∙ ap (λ b. b && rule_holds inputs plan numbers (over op e)) part_is.held
    ∙ rule-cast inputs plan numbers op e (interval_in plan (number_at numbers))
    ∙ ap (λ o. keeps_image o (dtype_of inputs (over op e)) (image_of inputs plan numbers (over op e))) (sym here)
    ∙ ap (keeps_image planned (dtype_of inputs (over op e))) (image-over inputs plan first op e
    ∙ ap (λ d. operation_image op d (bound_of inputs plan (numbers_from first e) e)) (sym part_is.typed)
    ∙ ap (operation_image op (part_dtype part)) (sym part_is.bounded)) in
    settle inputs plan numbers (over op e) planned image (operation_image op (part_dtype part) (part_bound part)) result here rules
    (typed ∙ ap (operation_dtype op) part_is.typed ∙ sym (dtype-over inputs op e)) imaged settled

pub unary_fails : (inputs : List Column) (plan : Plan) (first : ℕ) (op : UnaryOp) (e : Tree) → rules_hold inputs plan (numbers_from first e) e ≡ false → rules_hold inputs plan (numbers_from first (over op e)) (over op e) ≡ false
unary_fails inputs plan first op e h = rules-over inputs plan first op e ∙ ap (λ b. b && rule_holds inputs plan (numbers_from first (over op e)) (over op e)) h

rule-binary : (inputs : List Column) (plan : Plan) (numbers : Numbers) (op : BinOp) (l r : Tree) (planned : Option Interval) → keeps_rule inputs plan numbers (Binary op l r) planned ≡ keeps_image planned (dtype_of inputs (Binary op l r)) (image_of inputs plan numbers (Binary op l r))
rule-binary inputs plan numbers op l r None = refl
rule-binary inputs plan numbers op l r (Some range) = refl

pub binary_checked : (inputs : List Column) (plan : Plan) (first second number : ℕ) (op : BinOp) (l r : Tree) (left right : Part) (planned : Option Interval) (image : Option (DataType × Option Interval)) (result : Option Part)
    → second ≡ first + node_count l → number ≡ second + node_count r → IsPart inputs plan (numbers_from first l) l left → IsPart inputs plan (numbers_from second r) r right → planned ≡ interval_in plan number
    → image_dtype image ≡ pair_dtype op (part_dtype left) (part_dtype right) → IfSome image (λ typed. typed.1 ≡ pair_image op (part_dtype left) (part_dtype right) (part_bound left) (part_bound right))
    → IsSettledBy planned image result → IsChecked inputs plan (numbers_from first (Binary op l r)) (Binary op l r) result
binary_checked inputs plan first second number op l r left right planned image result next is left_is right_at at typed imaged settled =
    let numbers = numbers_from first (Binary op l r) in
    let P : ℕ → Type 0 = λ n. IsPart inputs plan (numbers_from n r) r right in
    let right_is = subst P next right_at in
    let here : planned ≡ interval_in plan (number_at numbers) = at ∙ ap (interval_in plan) (is ∙ ap (λ n. n + node_count r) next) in
    let p = pair_image op (part_dtype left) (part_dtype right) (part_bound left) (part_bound right) in
    let rules : rules_hold inputs plan numbers (Binary op l r) ≡ keeps_image planned (dtype_of inputs (Binary op l r)) p =
    ap (λ b. b && (rules_hold inputs plan (numbers_from (first + node_count l) r) r && rule_holds inputs plan numbers (Binary op l r))) left_is.held
    ∙ ap (λ b. b && rule_holds inputs plan numbers (Binary op l r)) right_is.held
    ∙ rule-binary inputs plan numbers op l r (interval_in plan (number_at numbers))
    ∙ ap (λ o. keeps_image o (dtype_of inputs (Binary op l r)) (image_of inputs plan numbers (Binary op l r))) (sym here)
    ∙ ap (keeps_image planned (dtype_of inputs (Binary op l r)))
    (ap (λ d. pair_image op d (dtype_of inputs r) (bound_of inputs plan (numbers_from first l) l) (bound_of inputs plan (numbers_from (first + node_count l) r) r)) (sym left_is.typed)
    ∙ ap (λ d. pair_image op (part_dtype left) d (bound_of inputs plan (numbers_from first l) l) (bound_of inputs plan (numbers_from (first + node_count l) r) r)) (sym right_is.typed)
    ∙ ap (λ b. pair_image op (part_dtype left) (part_dtype right) b (bound_of inputs plan (numbers_from (first + node_count l) r) r)) (sym left_is.bounded)
    ∙ ap (pair_image op (part_dtype left) (part_dtype right) (part_bound left)) (sym right_is.bounded)) in
    settle inputs plan numbers (Binary op l r) planned image p result here rules
    (typed ∙ ap (λ d. pair_dtype op d (part_dtype right)) left_is.typed ∙ ap (pair_dtype op (dtype_of inputs l)) right_is.typed) imaged settled

pub left_fails : (inputs : List Column) (plan : Plan) (first : ℕ) (op : BinOp) (l r : Tree) → rules_hold inputs plan (numbers_from first l) l ≡ false → rules_hold inputs plan (numbers_from first (Binary op l r)) (Binary op l r) ≡ false
left_fails inputs plan first op l r h =
    ap (λ b. b && (rules_hold inputs plan (numbers_from (first + node_count l) r) r && rule_holds inputs plan (numbers_from first (Binary op l r)) (Binary op l r))) h

pub right_fails : (inputs : List Column) (plan : Plan) (first second : ℕ) (op : BinOp) (l r : Tree) → second ≡ first + node_count l → rules_hold inputs plan (numbers_from first l) l ≡ true → rules_hold inputs plan (numbers_from second r) r ≡ false → rules_hold inputs plan (numbers_from first (Binary op l r)) (Binary op l r) ≡ false
right_fails inputs plan first second op l r next held h =
    let fails : rules_hold inputs plan (numbers_from (first + node_count l) r) r ≡ false = ap (λ n. rules_hold inputs plan (numbers_from n r) r) (sym next) ∙ h in
    ap (λ b. b && (rules_hold inputs plan (numbers_from (first + node_count l) r) r && rule_holds inputs plan (numbers_from first (Binary op l r)) (Binary op l r))) held
    ∙ ap (λ b. b && rule_holds inputs plan (numbers_from first (Binary op l r)) (Binary op l r)) fails

-- ---- inputs

rule-input : (inputs : List Column) (plan : Plan) (numbers : Numbers) (index : ℕ) (planned : Option Interval) → keeps_rule inputs plan numbers (Input index) planned ≡ keeps_column planned (dtype_of inputs (Input index)) (slice_get inputs index)
rule-input inputs plan numbers index None = refl
rule-input inputs plan numbers index (Some range) = refl

pub input_checked : (inputs : List Column) (plan : Plan) (number index : ℕ) (planned : Option Interval) (column : Option Column) (result : Option Part) → planned ≡ interval_in plan number → column ≡ slice_get inputs index → IsInput planned column result → IsChecked inputs plan (One number) (Input index) result
input_checked inputs plan number index planned column None at is input =
    rule-input inputs plan (One number) index (interval_in plan number)
    ∙ ap (λ o. keeps_column o (dtype_of inputs (Input index)) (slice_get inputs index)) (sym at)
    ∙ ap (λ (c : Option Column). keeps_column planned (option_map (λ (d : Column). d.dtype) c) c) (sym is) ∙ input
input_checked inputs plan number index planned column (Some part) at is input =
    let same : option_map (λ (d : Column). d.dtype) column ≡ dtype_of inputs (Input index) = ap (option_map (λ (d : Column). d.dtype)) is in
    record {
      typed = input.typed ∙ same;
      bounded = input.bounded ∙ ap (bound_by planned) same ∙ ap (λ o. bound_by o (dtype_of inputs (Input index))) at;
      held = rule-input inputs plan (One number) index (interval_in plan number)
          ∙ ap (λ o. keeps_column o (dtype_of inputs (Input index)) (slice_get inputs index)) (sym at)
          ∙ ap (λ (c : Option Column). keeps_column planned (option_map (λ (d : Column). d.dtype) c) c) (sym is) ∙ input.held;
      known = input.known;
    }

-- the column of an input
pub column_at : (inputs : List Chunked) (index : ℕ) → option_map column_of (slice_get inputs index) ≡ slice_get (columns_of inputs) index
column_at [] index = refl
column_at (input ∷ inputs) zero = refl
column_at (input ∷ inputs) (suc index) = column_at inputs index
