-- What a node answers that does one operation with its operand's column.
use Rattle.std.proofs.Common.{◌≡◌, ℕ, ◌+◌, ◌<◌, ℤ, pos, negsuc, ◌-ℤ◌, List, length, map, Option, Some, None, refl, sym, ap, ◌∙◌, subst, arith, Result, Err, IfOk, IfSome, OnOk, Bool, true, false, ◌&&◌, not}
use Rattle.std.specs.Prelude.{if◌then◌else◌}
use Rattle.std.specs.Option.{option_map, option_and_then, option_or}
use Rattle.std.proofs.lemmas.Bool.Decides.{nat_tests}
use Rattle.std.proofs.lemmas.List.{length-map}
use Rattle.col_types.specs.DataType.{kind_of, holds_integers, is_bad_target, is_expression_target}
use Rattle.col_types.specs.declared.data_type.DataType.{DataType}
use Rattle.col_types.specs.declared.cast_options.CastOptions.{CastOptions}
use Rattle.col_types.specs.declared.operator.OpName.{OpName}
use Rattle.col_types.specs.declared.is_sorted.IsSorted.TheVariants.{Not}
use Rattle.col_types.specs.declared.error.PolarsError.{PolarsError}
use Rattle.col_types.specs.declared.error.PolarsError.TheVariants as errors
use Rattle.col_model.specs.Value.{Value}
use Rattle.col_model.specs.Column.{Column}
use Rattle.col_model.specs.Chunked.{Chunked, column_of}
use Rattle.col_model.specs.Broadcast.{column_slots, row_at, row_before}
use Rattle.col_model.specs.CastTable.{cast_rule, resolved_target}
use Rattle.col_model.specs.ColumnCalls.{unless_refused, pair_refusal, cast_slot, cast_flag, cast_column}
use Rattle.col_model.specs.OperatorTable.{OperatorRule}
use Rattle.col_model.specs.ScalarTable.{is_scalar_of, scalar_right_rule, scalar_left_rule, unit_change_rule}
use Rattle.col_model.specs.OperatorCalls.{slot_in, ruled_column, scalar_by, in_unit_by, shifted}
use Rattle.col_model.specs.Formula.{slot_by}
use Rattle.col_model.specs.OperationNames.{name_of_op, name_of_scalar_op}
use Rattle.col_expr.specs.declared.error.EvalError.{EvalError}
use Rattle.col_expr.specs.declared.error.EvalError.TheVariants as refusals
use Rattle.col_expr.specs.declared.node.UnaryOp.{UnaryOp}
use Rattle.col_expr.specs.declared.node.UnaryOp.TheVariants as operations
use Rattle.col_expr.specs.Tree.{Tree, Cast, ScalarRight, ScalarLeft, InUnit, Shift, node_count, depth_of}
use Rattle.col_expr.specs.Node.{over}
use Rattle.col_expr.specs.Numbers.{Numbers, Over, number_at, below, numbers_from}
use Rattle.col_expr.specs.Built.{is_built_tree, is_built_operation}
use Rattle.col_expr.specs.Meaning.{name_of, dtype_of, rows_of, row_count, slot_at, slots_of, flag_of, step_count, cast_dtype, cast_rule_for, cast_flag_for, rule_dtype, rule_slot, scalar_slot, scalar_right_rule_for, scalar_left_rule_for, unit_change_rule_for}
use Rattle.col_expr.specs.Refusal.{at_node, cast_refusal_at, scalar_refusal_at, unsupported_at, refusal_at, first_refusal, GivesBy}
use Rattle.col_expr.specs.Found.{IsColumnOf, IsFine, IsFound, numbered, unary_at}
use Rattle.col_expr.proofs.Slots.{length-column_slots, column_slots-same, map-column_slots}
use Rattle.col_expr.proofs.NodeLemmas.{IsDueBy, found_due, due_by, row_count-is, slots_of-is, slot_in-is, steps_above, Unless-map}

-- ---- the counts of an operation over its operand

pub node_count-over : (op : UnaryOp) (t : Tree) → node_count (over op t) ≡ node_count t + 1
node_count-over (operations.Cast target options) t = refl
node_count-over (operations.ScalarRight op k) t = refl
node_count-over (operations.ScalarLeft k op) t = refl
node_count-over (operations.InUnit unit) t = refl
node_count-over (operations.Shift periods) t = refl

pub depth_of-over : (op : UnaryOp) (t : Tree) → depth_of (over op t) ≡ depth_of t + 1
depth_of-over (operations.Cast target options) t = refl
depth_of-over (operations.ScalarRight op k) t = refl
depth_of-over (operations.ScalarLeft k op) t = refl
depth_of-over (operations.InUnit unit) t = refl
depth_of-over (operations.Shift periods) t = refl

pub is_built_tree-over : (op : UnaryOp) (t : Tree) →
    is_built_tree (over op t) ≡ (is_built_operation op && is_built_tree t)
is_built_tree-over (operations.Cast target options) t = refl
is_built_tree-over (operations.ScalarRight op k) t = refl
is_built_tree-over (operations.ScalarLeft k op) t = refl
is_built_tree-over (operations.InUnit unit) t = refl
is_built_tree-over (operations.Shift periods) t = refl

step_count-over : (inputs : List Column) (op : UnaryOp) (t : Tree) →
    step_count inputs (over op t) ≡ step_count inputs t + row_count inputs (over op t)
step_count-over inputs (operations.Cast target options) t = refl
step_count-over inputs (operations.ScalarRight op k) t = refl
step_count-over inputs (operations.ScalarLeft k op) t = refl
step_count-over inputs (operations.InUnit unit) t = refl
step_count-over inputs (operations.Shift periods) t = refl

-- ---- casts

-- the column of a cast
column_of_cast : (inputs : List Column) (e : Tree) (c : Column) (d : DataType) (o : CastOptions) →
    IsColumnOf inputs e c → is_expression_target d ≡ true →
    IsColumnOf inputs (Cast e d o) (cast_column c (resolved_target c.dtype d) o)
column_of_cast inputs e c d o is target =
    let settled = resolved_target c.dtype d in
    let f = cast_slot (cast_rule c.dtype settled o) in
    let n = length c.slots in
    record {
      named = is.named;
      typed = ap (λ from. cast_dtype from d) is.typed
          ∙ ap (λ b. if b then Some settled else None) target;
      long = is.long ∙ ap Some (sym (length-map c.slots f));
      filled = ap (map f) is.filled ∙ map-column_slots f (slot_at inputs e) n
          ∙ ap (λ from. column_slots
          (λ row. cast_slot (cast_rule_for from d o) (slot_at inputs e row)) n) (sym is.typed)
          ∙ ap (column_slots (slot_at inputs (Cast e d o))) (sym (length-map c.slots f));
      flagged = ap (cast_flag c.dtype settled c.slots) is.flagged
          ∙ ap (λ slots. cast_flag_for (Some c.dtype) d slots (flag_of inputs e))
          (sym (slots_of-is inputs e c is))
          ∙ ap (λ from. cast_flag_for from d (slots_of inputs e) (flag_of inputs e))
          (sym is.typed);
    }

-- the refusal of a cast of a column
refusal_of_cast : (inputs : List Column) (node : ℕ) (e : Tree) (c : Column) (d : DataType)
    (o : CastOptions) → IsColumnOf inputs e c →
    refusal_at inputs node (Cast e d o) ≡ cast_refusal_at node (Some c.dtype) d o c.slots
refusal_of_cast inputs node e c d o is =
    ap (λ from. cast_refusal_at node from d o (slots_of inputs e)) is.typed
    ∙ ap (cast_refusal_at node (Some c.dtype) d o) (slots_of-is inputs e c is)

-- what a cast answers, by whether its target is one of an expression, and by the pair's refusal
due_cast : (inputs : List Column) (refused : Option EvalError) (node : ℕ) (t : Tree)
    (column : Column) (holds bad : Bool) (first second : Option PolarsError) →
    refused ≡ (if holds && not bad then option_map (at_node node) second
    else Some (refusals.BadType node)) →
    ((holds && not bad) ≡ true → IsColumnOf inputs t column) →
    IsDueBy inputs refused t (if holds && not bad
    then numbered node (unless_refused (if bad then first else second) column)
    else Err (refusals.BadType node))
due_cast inputs refused node t column false bad first second same is = same
due_cast inputs refused node t column true true first second same is = same
due_cast inputs refused node t column true false first None same is =
    record { fine = same; column_is = is refl }
due_cast inputs refused node t column true false first (Some e) same is = same

-- ---- scalars and units

-- the column of a rule of a table for one operand
column_of_ruled : (inputs : List Column) (t e : Tree) (c : Column) (rule : OperatorRule) →
    IsColumnOf inputs e c → name_of inputs t ≡ name_of inputs e →
    dtype_of inputs t ≡ Some rule.dtype → rows_of inputs t ≡ rows_of inputs e →
    ((row : ℕ) → slot_by rule.formula (slot_at inputs e row) ≡ slot_at inputs t row) →
    flag_of inputs t ≡ Not → IsColumnOf inputs t (ruled_column c rule)
column_of_ruled inputs t e c rule is name dtype rows slot flag =
    let n = length c.slots in
    let long : length (map (slot_by rule.formula) c.slots) ≡ n = length-map c.slots (slot_by rule.formula) in
    record {
      named = name ∙ is.named;
      typed = dtype;
      long = rows ∙ is.long ∙ ap Some (sym long);
      filled = ap (map (slot_by rule.formula)) is.filled
          ∙ map-column_slots (slot_by rule.formula) (slot_at inputs e) n
          ∙ column_slots-same (λ row. slot_by rule.formula (slot_at inputs e row)) (slot_at inputs t) n
          (λ row h. slot row)
          ∙ ap (column_slots (slot_at inputs t)) (sym long);
      flagged = sym flag;
    }

-- the slot of a scalar's rule that there is, for an integer of the word
scalar_slot-is : (dtype : Option DataType) (from : DataType) (k : ℤ)
    (rules : Option OperatorRule) (rule : OperatorRule) (slot : Option Value) →
    dtype ≡ Some from → is_scalar_of from k ≡ true → rules ≡ Some rule →
    slot_by rule.formula slot ≡ scalar_slot dtype k rules slot
scalar_slot-is dtype from k rules rule slot typed holds ruled =
    sym (ap (λ d. scalar_slot d k rules slot) typed
    ∙ ap (λ b. if b then rule_slot rules slot else None) holds
    ∙ ap (λ r. rule_slot r slot) ruled)

-- what a scalar node answers, by its rule and the test of its integer
due_scalar : (inputs : List Column) (refused : Option EvalError) (node : ℕ) (t : Tree)
    (c : Column) (name : OpName) (k : ℤ) (rules : Option OperatorRule) →
    refused ≡ scalar_refusal_at node (Some c.dtype) k rules →
    ((rule : OperatorRule) → rules ≡ Some rule → is_scalar_of c.dtype k ≡ true →
    IsColumnOf inputs t (ruled_column c rule)) →
    IsDueBy inputs refused t (numbered node (scalar_by name k c rules))
due_scalar inputs refused node t c name k None same is = same
due_scalar inputs refused node t c name k (Some rule) same is =
    due_by inputs refused node t (ruled_column c rule) (errors.Scalar k) (is_scalar_of c.dtype k)
    same (is rule refl)

-- what a change of unit answers, by its rule
due_unit : (inputs : List Column) (refused : Option EvalError) (node : ℕ) (t : Tree)
    (c : Column) (rules : Option OperatorRule) → refused ≡ unsupported_at node rules →
    ((rule : OperatorRule) → rules ≡ Some rule → IsColumnOf inputs t (ruled_column c rule)) →
    IsDueBy inputs refused t (numbered node (in_unit_by c rules))
due_unit inputs refused node t c None same is = same
due_unit inputs refused node t c (Some rule) same is =
    record { fine = same; column_is = is rule refl }

-- ---- shifts

row_at-within : (n : ℕ) (z : ℤ) → IfSome (row_at n z) (λ row. row < n)
row_at-within n (pos row) = grind (arith, nat_tests)
row_at-within n (negsuc m) = tt

-- the slot of a row that may be missing
and_then-same : (f g : ℕ → Option Value) (n : ℕ) (row : Option ℕ) → IfSome row (λ r. r < n) →
    ((r : ℕ) → r < n → f r ≡ g r) → option_and_then f row ≡ option_and_then g row
and_then-same f g n None h same = refl
and_then-same f g n (Some r) h same = same r h

-- the column of a shift
column_of_shift : (inputs : List Column) (e : Tree) (c : Column) (p : ℤ) → IsColumnOf inputs e c →
    IsColumnOf inputs (Shift e p) (shifted c p)
column_of_shift inputs e c p is =
    let n = length c.slots in
    let long : length (shifted c p).slots ≡ n = length-column_slots _ n in
    record {
      named = is.named;
      typed = is.typed;
      long = is.long ∙ ap Some (sym long);
      filled = column_slots-same _ (slot_at inputs (Shift e p)) n (λ row h.
          and_then-same (slot_in c) (slot_at inputs e) n (row_before n p row)
          (row_at-within n (pos row -ℤ p)) (λ r k. slot_in-is inputs e c r is k)
          ∙ ap (λ rows. option_and_then (slot_at inputs e) (row_before rows p row))
          (sym (row_count-is inputs e c is)))
          ∙ ap (column_slots (slot_at inputs (Shift e p))) (sym long);
      flagged = refl;
    }

-- ---- any operation

-- what an operation answers on the column of its operand
due_unary : (inputs : List Column) (node : ℕ) (op : UnaryOp) (e : Tree) (c : Column) →
    IsColumnOf inputs e c →
    IsDueBy inputs (refusal_at inputs node (over op e)) (over op e) (unary_at node op c)
due_unary inputs node (operations.Cast d o) e c is =
    due_cast inputs (refusal_at inputs node (Cast e d o)) node (Cast e d o)
    (cast_column c (resolved_target c.dtype d) o) (holds_integers d) (is_bad_target d)
    (Some (errors.BadType (kind_of d)))
    (pair_refusal c.dtype d o (cast_rule c.dtype (resolved_target c.dtype d) o) c.slots)
    (refusal_of_cast inputs node e c d o is) (column_of_cast inputs e c d o is)
due_unary inputs node (operations.ScalarRight op k) e c is =
    let t = ScalarRight e op k in
    let at : scalar_right_rule_for (dtype_of inputs e) op k ≡ scalar_right_rule c.dtype op k =
    ap (λ d. scalar_right_rule_for d op k) is.typed in
    due_scalar inputs (refusal_at inputs node t) node t c (name_of_scalar_op op) k
    (scalar_right_rule c.dtype op k)
    (ap (λ d. scalar_refusal_at node d k (scalar_right_rule_for d op k)) is.typed)
    (λ rule ruled holds. column_of_ruled inputs t e c rule is refl (ap rule_dtype (at ∙ ruled)) refl
    (λ row. scalar_slot-is (dtype_of inputs e) c.dtype k
    (scalar_right_rule_for (dtype_of inputs e) op k) rule (slot_at inputs e row) is.typed holds
    (at ∙ ruled)) refl)
due_unary inputs node (operations.ScalarLeft k op) e c is =
    let t = ScalarLeft k op e in
    let at : scalar_left_rule_for k op (dtype_of inputs e) ≡ scalar_left_rule k op c.dtype =
    ap (scalar_left_rule_for k op) is.typed in
    due_scalar inputs (refusal_at inputs node t) node t c (name_of_op op) k
    (scalar_left_rule k op c.dtype)
    (ap (λ d. scalar_refusal_at node d k (scalar_left_rule_for k op d)) is.typed)
    (λ rule ruled holds. column_of_ruled inputs t e c rule is refl (ap rule_dtype (at ∙ ruled)) refl
    (λ row. scalar_slot-is (dtype_of inputs e) c.dtype k
    (scalar_left_rule_for k op (dtype_of inputs e)) rule (slot_at inputs e row) is.typed holds
    (at ∙ ruled)) refl)
due_unary inputs node (operations.InUnit unit) e c is =
    let t = InUnit e unit in
    let at : unit_change_rule_for (dtype_of inputs e) unit ≡ unit_change_rule c.dtype unit =
    ap (λ d. unit_change_rule_for d unit) is.typed in
    due_unit inputs (refusal_at inputs node t) node t c (unit_change_rule c.dtype unit)
    (ap (unsupported_at node) at)
    (λ rule ruled. column_of_ruled inputs t e c rule is refl (ap rule_dtype (at ∙ ruled)) refl
    (λ row. ap (λ r. rule_slot r (slot_at inputs e row)) (sym (at ∙ ruled))) refl)
due_unary inputs node (operations.Shift p) e c is =
    record { fine = refl; column_is = column_of_shift inputs e c p is }

-- the refusals of an operation and what stands below it
first_refusal-over : (inputs : List Column) (numbers : Numbers) (op : UnaryOp) (e : Tree) →
    first_refusal inputs numbers (over op e)
    ≡ option_or (first_refusal inputs (below numbers) e)
    (refusal_at inputs (number_at numbers) (over op e))
first_refusal-over inputs numbers (operations.Cast target options) e = refl
first_refusal-over inputs numbers (operations.ScalarRight op k) e = refl
first_refusal-over inputs numbers (operations.ScalarLeft k op) e = refl
first_refusal-over inputs numbers (operations.InUnit unit) e = refl
first_refusal-over inputs numbers (operations.Shift periods) e = refl

-- an operation over an operand that is found
pub found_unary : (inputs : List Column) (numbers : Numbers) (op : UnaryOp) (e : Tree) (c : Column)
    (answer : Result Chunked EvalError) → IsFine inputs (below numbers) e c →
    GivesBy column_of answer (unary_at (number_at numbers) op c) →
    IsFound inputs numbers (over op e) answer
found_unary inputs numbers op e c answer operand gives =
    let node = number_at numbers in
    let refused : first_refusal inputs numbers (over op e) ≡ refusal_at inputs node (over op e) =
    first_refusal-over inputs numbers op e
    ∙ ap (λ refusal. option_or refusal (refusal_at inputs node (over op e))) operand.fine in
    let P : Option EvalError → Type 0 = λ r. IsDueBy inputs r (over op e) (unary_at node op c) in
    found_due inputs (first_refusal inputs numbers (over op e)) (over op e) (unary_at node op c)
    answer
    (subst P (sym refused) (due_unary inputs node op e c operand.column_is))
    gives

-- the numbers of an operand and of the operation above it, as they are counted
pub numbers_of_over : (first node : ℕ) (op : UnaryOp) (e : Tree) → node ≡ first + node_count e →
    numbers_from first (over op e) ≡ Over node (numbers_from first e)
numbers_of_over first node (operations.Cast target options) e at =
    ap (λ n. Over n (numbers_from first e)) (sym at)
numbers_of_over first node (operations.ScalarRight op k) e at =
    ap (λ n. Over n (numbers_from first e)) (sym at)
numbers_of_over first node (operations.ScalarLeft k op) e at =
    ap (λ n. Over n (numbers_from first e)) (sym at)
numbers_of_over first node (operations.InUnit unit) e at =
    ap (λ n. Over n (numbers_from first e)) (sym at)
numbers_of_over first node (operations.Shift periods) e at =
    ap (λ n. Over n (numbers_from first e)) (sym at)

-- the same, where the nodes are numbered from `first` on
pub found_unary_from : (inputs : List Column) (first node : ℕ) (op : UnaryOp) (e : Tree) (c : Column)
    (answer : Result Chunked EvalError) → node ≡ first + node_count e →
    IsFine inputs (numbers_from first e) e c → GivesBy column_of answer (unary_at node op c) →
    IsFound inputs (numbers_from first (over op e)) (over op e) answer
found_unary_from inputs first node op e c answer at operand gives =
    let P : Numbers → Type 0 = λ numbers. IsFound inputs numbers (over op e) answer in
    subst P (sym (numbers_of_over first node op e at))
    (found_unary inputs (Over node (numbers_from first e)) op e c answer operand gives)

-- a refusal below an operation is that of the whole
pub refused_below : (inputs : List Column) (numbers : Numbers) (op : UnaryOp) (e : Tree)
    (error : EvalError) → IsFound inputs (below numbers) e (Err error) →
    IsFound inputs numbers (over op e) (Err error)
refused_below inputs numbers op e error =
    Unless-map error (λ h. first_refusal-over inputs numbers op e
    ∙ ap (λ refusal. option_or refusal (refusal_at inputs (number_at numbers) (over op e))) h)

-- the steps of an operation, from those of its operand
pub steps_unary : (inputs : List Column) (numbers : Numbers) (before mid after : ℕ) (op : UnaryOp)
    (e : Tree) (answer : Result Chunked EvalError) → IsFound inputs numbers (over op e) answer →
    mid ≡ before + step_count inputs e →
    IfOk answer (λ found. after ≡ mid + length found.column.slots) →
    OnOk answer (after ≡ before + step_count inputs (over op e))
steps_unary inputs numbers before mid after op e answer found low high =
    steps_above inputs numbers before mid after (step_count inputs e) (over op e) answer
    (step_count-over inputs op e) found low high
