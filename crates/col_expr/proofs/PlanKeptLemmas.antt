-- A valid plan keeps its promise at each node.
use Rattle.std.proofs.Common.{◌≡◌, ℕ, ℤ, zero, suc, List, [], ◌∷◌, ◌++◌, true, ◌&&◌, Option, Some, None, refl, sym, ap, ◌∙◌, subst}
use Rattle.std.specs.Prelude.{slice_get, slice_index_or}
use Rattle.std.specs.List.{All, list_all}
use Rattle.std.specs.Option.{option_map, option_and_then}
use Rattle.std.proofs.lemmas.Bool.{and_parts, false≢true}
use Rattle.std.proofs.lemmas.List.Elements.{All-cons, All-nil, All-append}
use Rattle.col_types.specs.declared.data_type.DataType.{DataType}
use Rattle.col_model.specs.Arithmetic.{Interval, is_within, is_inside}
use Rattle.col_model.specs.Value.{Value, Flat, Nested, Whole, Bytes, whole}
use Rattle.col_model.specs.Column.{Column, IsValidColumn, values_of, is_value_in}
use Rattle.col_model.specs.Formula.{Formula, interval_of}
use Rattle.col_model.specs.Broadcast.{operand_row, row_before}
use Rattle.col_model.proofs.IntervalLemmas.{intervals_hold}
use Rattle.col_model.proofs.WithinLemmas.{is_within-true, within_from, inside_from}
use Rattle.col_expr.specs.Tree.{Tree, Input, Cast, Binary, ScalarRight, ScalarLeft, InUnit, Shift, node_count}
use Rattle.col_expr.specs.Numbers.{Numbers, number_at, below, left_of, right_of, numbers_from}
use Rattle.col_expr.specs.Built.{is_built_cast, is_built_tree}
use Rattle.col_expr.specs.Meaning.{dtype_of, input_slot, slot_at, row_count}
use Rattle.col_expr.specs.Plan.{Plan, interval_in, bound_by, bound_of, formula_for, image_by, fits_type, is_slot_within, is_column_within, is_image_inside, is_kept_within, keeps_rule, rule_holds, rules_hold, ends_before}
use Rattle.col_expr.specs.PlanLaws.{numbered_nodes, operands_at, exact_slot, IsKeptBy, ValidPlansAreKept}
use Rattle.col_expr.proofs.FormulaLemmas.{formula_slot, HasFormula, slot-formula, formula_there, value_whole, slots_fit}

-- each valid slot of a node lies in its bound
abbrev IsBounded : List Column → Plan → Numbers → Tree → Type 0
IsBounded inputs plan numbers tree = (range : Interval) (row : ℕ) (value : Value) → bound_of inputs plan numbers tree ≡ Some range → slot_at inputs tree row ≡ Some value → is_value_in (Some range) value ≡ true

-- a part is bounded, and each node of it keeps its interval
record IsKeptPart (inputs : List Column) (plan : Plan) (numbers : Numbers) (tree : Tree) : Type 0 where
  bounded : IsBounded inputs plan numbers tree
  kept : All (IsKeptBy inputs plan) (numbered_nodes numbers tree)

-- the slot of an operand lies in the operand's bound
abbrev LiesIn : Option Interval → Option Value → Type 0
LiesIn bound slot = (range : Interval) (value : Value) → bound ≡ Some range → slot ≡ Some value → is_value_in (Some range) value ≡ true

-- ---- a formula on slots that lie in bounds

image_there : (f : Option Formula) (p q : Option Interval) (image : Interval) → image_by f p q ≡ Some image → (g : Formula) × (a : Interval) × (b : Interval) × (f ≡ Some g) × (p ≡ Some a) × (q ≡ Some b) × (interval_of g a b ≡ Some image)
image_there None p q image e = cc
image_there (Some g) None q image e = cc
image_there (Some g) (Some a) None image e = cc
image_there (Some g) (Some a) (Some b) image e = (g, a, b, refl, refl, refl, e)

-- what the operands' slots give
record IsExact (f : Option Formula) (image : Interval) (x y : Value) : Type 0 where
  value : ℤ
  slot : formula_slot f (Some x, Some y) ≡ Some (whole value)
  exact : exact_slot f (Some x, Some y) ≡ Some (whole value)
  within : is_within image value ≡ true

exact_given : (f : Option Formula) (p q : Option Interval) (image : Interval) (x y : Value) → image_by f p q ≡ Some image → LiesIn p (Some x) → LiesIn q (Some y) → IsExact f image x y
exact_given f p q image x y e u v =
    let t = image_there f p q image e in
    let hx = u t.1 x t.4 refl in
    let hy = v t.2 y t.5 refl in
    by_whole x y (value_whole (Some t.1) x hx) (value_whole (Some t.2) y hy) t.0 t.1 t.2 t.3 t.6 hx hy
  where
    by_whole : (x y : Value) → (n : ℤ) × (x ≡ whole n) → (m : ℤ) × (y ≡ whole m) → (g : Formula) (a b : Interval) → f ≡ Some g → interval_of g a b ≡ Some image
        → is_value_in (Some a) x ≡ true → is_value_in (Some b) y ≡ true → IsExact f image x y
    by_whole x y n m g a b is at hx hy =
        let inx : is_within a n.0 ≡ true = ap (is_value_in (Some a)) (sym n.1) ∙ hx in
        let iny : is_within b m.0 ≡ true = ap (is_value_in (Some b)) (sym m.1) ∙ hy in
        let K = intervals_hold g a b image n.0 m.0 inx iny at in
        let P : Option Formula → Value → Value → Type 0 = λ h u v. IsExact h image u v in
        let base : IsExact (Some g) image (whole n.0) (whole m.0) = record {
          value = K.value;
          slot = ap (option_map whole) K.valid;
          exact = ap (option_map whole) K.exact;
          within = K.within;
        } in
        subst (λ h. P h x y) (sym is) (subst (λ u. P (Some g) u y) (sym n.1) (subst (λ v. P (Some g) (whole n.0) v) (sym m.1) base))

-- a valid slot of a node lies in its image
image_holds : (inputs : List Column) (tree : Tree) (row : ℕ) (p q : Option Interval) (image : Interval) (value : Value) → HasFormula tree → image_by (formula_for inputs tree) p q ≡ Some image
    → LiesIn p (operands_at inputs tree row).0 → LiesIn q (operands_at inputs tree row).1 → slot_at inputs tree row ≡ Some value → is_value_in (Some image) value ≡ true
image_holds inputs tree row p q image value has e u v s =
    let f = formula_for inputs tree in
    let formula = sym (slot-formula inputs tree row has) ∙ s in
    let t = formula_there f (operands_at inputs tree row) value formula in
    let X = exact_given f p q image (whole t.1) (whole t.2) e
    (λ range w b o. u range w b (t.5 ∙ o)) (λ range w b o. v range w b (t.6 ∙ o)) in
    let both : formula_slot f (Some (whole t.1), Some (whole t.2)) ≡ Some value =
    ap (λ o. formula_slot f (o, Some (whole t.2))) (sym t.5) ∙ ap (λ o. formula_slot f ((operands_at inputs tree row).0, o)) (sym t.6) ∙ formula in
    let same : whole X.value ≡ value = some_same (whole X.value) value (sym X.slot ∙ both) in
    ap (is_value_in (Some image)) (sym same) ∙ X.within
  where
    some_same : (a b : Value) → Some a ≡ Some b → a ≡ b
    some_same a b e = cc

-- ---- the rule of a node

-- what lies in an interval lies in one that encloses it
enclosed : (range inner : Interval) (value : Value) → is_inside range inner ≡ true → is_value_in (Some inner) value ≡ true → is_value_in (Some range) value ≡ true
enclosed range inner (Flat (Whole x)) h v =
    let parts = and_parts (is_within range inner.low) (is_within range inner.high) h in
    is_within-true range x (inside_from range inner x parts.0 parts.1 (within_from inner x v))
enclosed range inner (Flat (Bytes b)) h v = absurd (false≢true v)
enclosed range inner (Nested leaves) h v = absurd (false≢true v)

image_inside_there : (range : Interval) (image : Option Interval) → is_image_inside range image ≡ true → (inner : Interval) × (image ≡ Some inner) × (is_inside range inner ≡ true)
image_inside_there range None h = absurd (false≢true h)
image_inside_there range (Some inner) h = (inner, refl, h)

-- the bound of a node, by the plan or by its type
by_bound : (planned : Option Interval) (dtype : Option DataType) (P : Interval → Type 0) (range : Interval) → bound_by planned dtype ≡ Some range
    → ((p : Interval) → planned ≡ Some p → P p) → ((d : DataType) (p : Interval) → planned ≡ None → dtype ≡ Some d → values_of d ≡ Some p → P p) → P range
by_bound (Some p) dtype P range e covered free =
    let same : p ≡ range = cc in
    subst P same (covered p refl)
by_bound None None P range e covered free = cc
by_bound None (Some d) P range e covered free = free d range refl refl e

-- a node that keeps its rule, where a valid slot lies in its image
covered_range : (inputs : List Column) (plan : Plan) (numbers : Numbers) (tree : Tree) (planned : Option Interval) (range : Interval) → keeps_rule inputs plan numbers tree planned ≡ true → planned ≡ Some range → is_kept_within inputs plan numbers tree range ≡ true
covered_range inputs plan numbers tree None range h e = cc
covered_range inputs plan numbers tree (Some p) range h e =
    let same : p ≡ range = cc in
    let parts = and_parts (fits_type (dtype_of inputs tree) p) (is_kept_within inputs plan numbers tree p) h in
    ap (is_kept_within inputs plan numbers tree) (sym same) ∙ parts.1

-- the bound of a node whose covered interval holds each valid slot
bounded_by_rule : (inputs : List Column) (plan : Plan) (numbers : Numbers) (tree : Tree) → All IsValidColumn inputs → is_built_tree tree ≡ true
    → ((range : Interval) (row : ℕ) (value : Value) → interval_in plan (number_at numbers) ≡ Some range → slot_at inputs tree row ≡ Some value → is_value_in (Some range) value ≡ true)
    → IsBounded inputs plan numbers tree
bounded_by_rule inputs plan numbers tree all built covered range row value bound s =
    by_bound (interval_in plan (number_at numbers)) (dtype_of inputs tree) (λ p. is_value_in (Some p) value ≡ true) range bound
    (λ p is. covered p row value is s)
    (λ d p none typed values. ap (λ o. is_value_in o value) (sym values) ∙ (slots_fit inputs all tree built d typed).values row value s)

one_kept : (inputs : List Column) (plan : Plan) (numbers : Numbers) (tree : Tree) → IsKeptBy inputs plan (numbers, tree) → All (IsKeptBy inputs plan) ((numbers, tree) ∷ [])
one_kept inputs plan numbers tree kept = All-cons (IsKeptBy inputs plan) (numbers, tree) [] kept (All-nil (IsKeptBy inputs plan))

-- a node with a formula, over operands that are bounded
formula_node : (inputs : List Column) (plan : Plan) (numbers : Numbers) (tree : Tree) (p q : Option Interval) → All IsValidColumn inputs → is_built_tree tree ≡ true → HasFormula tree
    → rule_holds inputs plan numbers tree ≡ true
    → ((range : Interval) → is_kept_within inputs plan numbers tree range ≡ is_image_inside range (image_by (formula_for inputs tree) p q))
    → ((row : ℕ) → LiesIn p (operands_at inputs tree row).0) → ((row : ℕ) → LiesIn q (operands_at inputs tree row).1)
    → IsBounded inputs plan numbers tree × IsKeptBy inputs plan (numbers, tree)
formula_node inputs plan numbers tree p q all built has rule within u v = (
  bounded_by_rule inputs plan numbers tree all built lies,
  λ range is. record {
    within = λ row value s. lies range row value is s;
    exact = λ row x y at.
        let i = inner range is in
        let X = exact_given (formula_for inputs tree) p q i.0 x y i.1
        (λ r w b o. u row r w b (ap (λ t. t.0) at ∙ o)) (λ r w b o. v row r w b (ap (λ t. t.1) at ∙ o)) in
        (X.value, slot-formula inputs tree row has ∙ ap (formula_slot (formula_for inputs tree)) at ∙ X.slot, X.exact);
  },
)
  where
    inner : (range : Interval) → interval_in plan (number_at numbers) ≡ Some range → (i : Interval) × (image_by (formula_for inputs tree) p q ≡ Some i) × (is_inside range i ≡ true)
    inner range is =
        image_inside_there range (image_by (formula_for inputs tree) p q)
        (sym (within range) ∙ covered_range inputs plan numbers tree (interval_in plan (number_at numbers)) range rule is)

    lies : (range : Interval) (row : ℕ) (value : Value) → interval_in plan (number_at numbers) ≡ Some range → slot_at inputs tree row ≡ Some value → is_value_in (Some range) value ≡ true
    lies range row value is s =
        let i = inner range is in
        enclosed range i.0 value i.2 (image_holds inputs tree row p q i.0 value has i.1 (u row) (v row) s)

-- ---- inputs and shifts

slots_within_there : (range : Interval) (slots : List (Option Value)) (row : ℕ) (value : Value) → list_all (is_slot_within range) slots ≡ true → slice_index_or slots row None ≡ Some value → is_value_in (Some range) value ≡ true
slots_within_there range [] row value h e = cc
slots_within_there range (slot ∷ slots) zero value h e = ap (is_slot_within range) (sym e) ∙ (and_parts (is_slot_within range slot) (list_all (is_slot_within range) slots) h).0
slots_within_there range (slot ∷ slots) (suc row) value h e = slots_within_there range slots row value (and_parts (is_slot_within range slot) (list_all (is_slot_within range) slots) h).1 e

column_within_there : (range : Interval) (column : Option Column) (row : ℕ) (value : Value) → is_column_within range column ≡ true → input_slot column row ≡ Some value → is_value_in (Some range) value ≡ true
column_within_there range None row value h e = absurd (false≢true h)
column_within_there range (Some column) row value h e = slots_within_there range column.slots row value h e

no_value : {P : Type 0} (x : Value) → None ≡ Some x → P
no_value x e = cc

-- a node without a formula, whose covered interval holds each valid slot
plain_node : (inputs : List Column) (plan : Plan) (numbers : Numbers) (tree : Tree) → All IsValidColumn inputs → is_built_tree tree ≡ true
    → ((row : ℕ) → operands_at inputs tree row ≡ (None, None))
    → ((range : Interval) (row : ℕ) (value : Value) → interval_in plan (number_at numbers) ≡ Some range → slot_at inputs tree row ≡ Some value → is_value_in (Some range) value ≡ true)
    → IsBounded inputs plan numbers tree × IsKeptBy inputs plan (numbers, tree)
plain_node inputs plan numbers tree all built none lies = (
  bounded_by_rule inputs plan numbers tree all built lies,
  λ range is. record {
    within = λ row value s. lies range row value is s;
    exact = λ row x y at. no_value x (ap (λ (t : Option Value × Option Value). t.0) (sym (none row)) ∙ ap (λ (t : Option Value × Option Value). t.0) at);
  },
)

-- ---- the induction

over_one : (inputs : List Column) (plan : Plan) (numbers : Numbers) (tree : Tree) (nodes : List (Numbers × Tree)) → IsBounded inputs plan numbers tree × IsKeptBy inputs plan (numbers, tree) → All (IsKeptBy inputs plan) nodes
    → numbered_nodes numbers tree ≡ nodes ++ (numbers, tree) ∷ [] → IsKeptPart inputs plan numbers tree
over_one inputs plan numbers tree nodes node all is = record {
  bounded = node.0;
  kept =
      let P : List (Numbers × Tree) → Type 0 = λ ns. All (IsKeptBy inputs plan) ns in
      subst P (sym is) (All-append (IsKeptBy inputs plan) nodes ((numbers, tree) ∷ []) all (one_kept inputs plan numbers tree node.1));
}

kept_part : (inputs : List Column) (plan : Plan) → All IsValidColumn inputs → (tree : Tree) (numbers : Numbers) → is_built_tree tree ≡ true → rules_hold inputs plan numbers tree ≡ true → IsKeptPart inputs plan numbers tree
kept_part inputs plan all (Input index) numbers built rules =
    let node = plain_node inputs plan numbers (Input index) all built (λ row. refl)
    (λ range row value is s. column_within_there range (slice_get inputs index) row value
    (covered_range inputs plan numbers (Input index) (interval_in plan (number_at numbers)) range rules is) s) in
    record { bounded = node.0; kept = one_kept inputs plan numbers (Input index) node.1 }
kept_part inputs plan all (Cast e t o) numbers built rules =
    let parts = and_parts (is_built_cast t) (is_built_tree e) built in
    let held = and_parts (rules_hold inputs plan (below numbers) e) (rule_holds inputs plan numbers (Cast e t o)) rules in
    let E = kept_part inputs plan all e (below numbers) parts.1 held.0 in
    let lies : (row : ℕ) → LiesIn (bound_of inputs plan (below numbers) e) (slot_at inputs e row) = λ row range value b s. E.bounded range row value b s in
    over_one inputs plan numbers (Cast e t o) (numbered_nodes (below numbers) e)
    (formula_node inputs plan numbers (Cast e t o) (bound_of inputs plan (below numbers) e) (bound_of inputs plan (below numbers) e) all built tt held.1 (λ range. refl) lies lies)
    E.kept refl
kept_part inputs plan all (Binary op l r) numbers built rules =
    let parts = and_parts (is_built_tree l) (is_built_tree r) built in
    let held = and_parts (rules_hold inputs plan (left_of numbers) l) (rules_hold inputs plan (right_of numbers) r && rule_holds inputs plan numbers (Binary op l r)) rules in
    let rest = and_parts (rules_hold inputs plan (right_of numbers) r) (rule_holds inputs plan numbers (Binary op l r)) held.1 in
    let L = kept_part inputs plan all l (left_of numbers) parts.0 held.0 in
    let R = kept_part inputs plan all r (right_of numbers) parts.1 rest.0 in
    let node = formula_node inputs plan numbers (Binary op l r) (bound_of inputs plan (left_of numbers) l) (bound_of inputs plan (right_of numbers) r) all built tt rest.1 (λ range. refl)
    (λ row range value b s. L.bounded range (operand_row (row_count inputs l) row) value b s)
    (λ row range value b s. R.bounded range (operand_row (row_count inputs r) row) value b s) in
    record {
      bounded = node.0;
      kept = All-append (IsKeptBy inputs plan) (numbered_nodes (left_of numbers) l) (numbered_nodes (right_of numbers) r ++ (numbers, Binary op l r) ∷ []) L.kept
          (All-append (IsKeptBy inputs plan) (numbered_nodes (right_of numbers) r) ((numbers, Binary op l r) ∷ []) R.kept (one_kept inputs plan numbers (Binary op l r) node.1));
    }
kept_part inputs plan all (ScalarRight e op k) numbers built rules =
    let held = and_parts (rules_hold inputs plan (below numbers) e) (rule_holds inputs plan numbers (ScalarRight e op k)) rules in
    let E = kept_part inputs plan all e (below numbers) built held.0 in
    let lies : (row : ℕ) → LiesIn (bound_of inputs plan (below numbers) e) (slot_at inputs e row) = λ row range value b s. E.bounded range row value b s in
    over_one inputs plan numbers (ScalarRight e op k) (numbered_nodes (below numbers) e)
    (formula_node inputs plan numbers (ScalarRight e op k) (bound_of inputs plan (below numbers) e) (bound_of inputs plan (below numbers) e) all built tt held.1 (λ range. refl) lies lies)
    E.kept refl
kept_part inputs plan all (ScalarLeft k op e) numbers built rules =
    let held = and_parts (rules_hold inputs plan (below numbers) e) (rule_holds inputs plan numbers (ScalarLeft k op e)) rules in
    let E = kept_part inputs plan all e (below numbers) built held.0 in
    let lies : (row : ℕ) → LiesIn (bound_of inputs plan (below numbers) e) (slot_at inputs e row) = λ row range value b s. E.bounded range row value b s in
    over_one inputs plan numbers (ScalarLeft k op e) (numbered_nodes (below numbers) e)
    (formula_node inputs plan numbers (ScalarLeft k op e) (bound_of inputs plan (below numbers) e) (bound_of inputs plan (below numbers) e) all built tt held.1 (λ range. refl) lies lies)
    E.kept refl
kept_part inputs plan all (InUnit e u) numbers built rules =
    let held = and_parts (rules_hold inputs plan (below numbers) e) (rule_holds inputs plan numbers (InUnit e u)) rules in
    let E = kept_part inputs plan all e (below numbers) built held.0 in
    let lies : (row : ℕ) → LiesIn (bound_of inputs plan (below numbers) e) (slot_at inputs e row) = λ row range value b s. E.bounded range row value b s in
    over_one inputs plan numbers (InUnit e u) (numbered_nodes (below numbers) e)
    (formula_node inputs plan numbers (InUnit e u) (bound_of inputs plan (below numbers) e) (bound_of inputs plan (below numbers) e) all built tt held.1 (λ range. refl) lies lies)
    E.kept refl
kept_part inputs plan all (Shift e p) numbers built rules =
    let held = and_parts (rules_hold inputs plan (below numbers) e) (rule_holds inputs plan numbers (Shift e p)) rules in
    let E = kept_part inputs plan all e (below numbers) built held.0 in
    let node = plain_node inputs plan numbers (Shift e p) all built (λ row. refl)
    (λ range row value is s.
    let i = image_inside_there range (bound_of inputs plan (below numbers) e) (covered_range inputs plan numbers (Shift e p) (interval_in plan (number_at numbers)) range held.1 is) in
    enclosed range i.0 value i.2 (shifted i.0 i.1 E.bounded (row_before (row_count inputs e) p row) value s)) in
    over_one inputs plan numbers (Shift e p) (numbered_nodes (below numbers) e) node E.kept refl
  where
    shifted : (i : Interval) → bound_of inputs plan (below numbers) e ≡ Some i → IsBounded inputs plan (below numbers) e → (o : Option ℕ) (value : Value) → option_and_then (slot_at inputs e) o ≡ Some value → is_value_in (Some i) value ≡ true
    shifted i at bounded None value s = cc
    shifted i at bounded (Some row) value s = bounded i row value at s

pub valid_plans_are_kept : ValidPlansAreKept
valid_plans_are_kept inputs plan tree all built valid =
    (kept_part inputs plan all tree (numbers_from 0 tree) built
    (and_parts (rules_hold inputs plan (numbers_from 0 tree) tree) (ends_before plan (node_count tree)) valid).0).kept
