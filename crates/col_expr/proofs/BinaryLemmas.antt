-- What a node answers that joins two columns.
use Rattle.std.proofs.Common.{◌≡◌, ℕ, ◌+◌, ◌<◌, List, length, Option, Some, None, refl, sym, ap, ◌∙◌, subst, arith, Result, Ok, Err, IfOk, OnOk}
use Rattle.std.specs.Option.{ok_or}
use Rattle.std.specs.Result.{result_ok}
use Rattle.col_types.specs.declared.data_type.DataType.{DataType}
use Rattle.col_types.specs.declared.operator.BinOp.{BinOp}
use Rattle.col_types.specs.declared.error.PolarsError.{PolarsError}
use Rattle.col_model.specs.Column.{Column}
use Rattle.col_model.specs.Broadcast.{column_slots, broadcast_length, operand_row}
use Rattle.col_model.specs.Chunked.{Chunked, column_of}
use Rattle.col_model.specs.Formula.{slots_by}
use Rattle.col_model.specs.OperationNames.{name_of_op, unsupported}
use Rattle.col_model.specs.OperatorTable.{OperatorRule, listed_rule, operator_rule}
use Rattle.col_model.specs.OperatorCalls.{operand_slot, binary_column, binary_by, binary_of}
use Rattle.col_expr.specs.declared.error.EvalError.{EvalError}
use Rattle.col_expr.specs.declared.error.EvalError.TheVariants as refusals
use Rattle.col_expr.specs.Tree.{Tree, Binary, node_count}
use Rattle.col_expr.specs.Numbers.{Numbers, Join, number_at, left_of, right_of, numbers_from}
use Rattle.col_expr.specs.Meaning.{dtype_of, rows_of, row_count, slot_at, step_count, rule_dtype, rule_slots, operator_rule_for, broadcast_length_for}
use Rattle.col_expr.specs.Refusal.{at_node, binary_refusal_at, refusal_at, first_refusal, GivesBy}
use Rattle.col_expr.specs.Found.{IsColumnOf, IsFine, IsFound, numbered}
use Rattle.col_expr.proofs.Slots.{length-column_slots, column_slots-same, operand_row-left, operand_row-right}
use Rattle.col_expr.proofs.NodeLemmas.{IsDueBy, found_due, row_count-is, slot_in-is, steps_above, Unless-map}

-- the rule of the table, and the number of rows, from the two columns
rule_is : (inputs : List Column) (op : BinOp) (l r : Tree) (c d : Column) →
    IsColumnOf inputs l c → IsColumnOf inputs r d →
    operator_rule_for op (dtype_of inputs l) (dtype_of inputs r)
    ≡ result_ok (operator_rule op c.dtype d.dtype)
rule_is inputs op l r c d left right =
    ap (λ from. operator_rule_for op from (dtype_of inputs r)) left.typed
    ∙ ap (operator_rule_for op (Some c.dtype)) right.typed

rows_are : (inputs : List Column) (l r : Tree) (c d : Column) →
    IsColumnOf inputs l c → IsColumnOf inputs r d →
    broadcast_length_for (rows_of inputs l) (rows_of inputs r)
    ≡ broadcast_length (length c.slots) (length d.slots)
rows_are inputs l r c d left right =
    ap (λ rows. broadcast_length_for rows (rows_of inputs r)) left.long
    ∙ ap (broadcast_length_for (Some (length c.slots))) right.long

-- an operand's slot for a row is the tree's
operand_slot-is : (inputs : List Column) (t : Tree) (c : Column) (row : ℕ) → IsColumnOf inputs t c →
    operand_row (length c.slots) row < length c.slots →
    operand_slot c row ≡ slot_at inputs t (operand_row (row_count inputs t) row)
operand_slot-is inputs t c row is h =
    slot_in-is inputs t c (operand_row (length c.slots) row) is h
    ∙ ap (λ rows. slot_at inputs t (operand_row rows row)) (sym (row_count-is inputs t c is))

-- the column of two columns that are joined by a rule of the table
column_of_binary : (inputs : List Column) (op : BinOp) (l r : Tree) (c d : Column) (rows : ℕ)
    (rule : OperatorRule) → IsColumnOf inputs l c → IsColumnOf inputs r d →
    broadcast_length (length c.slots) (length d.slots) ≡ Some rows →
    operator_rule op c.dtype d.dtype ≡ Ok rule →
    IsColumnOf inputs (Binary op l r) (binary_column c d rows rule)
column_of_binary inputs op l r c d rows rule left right fit ruled =
    let t = Binary op l r in
    let long : length (binary_column c d rows rule).slots ≡ rows = length-column_slots _ rows in
    let ruled_is : operator_rule_for op (dtype_of inputs l) (dtype_of inputs r) ≡ Some rule =
    rule_is inputs op l r c d left right ∙ ap result_ok ruled in
    record {
      named = left.named;
      typed = ap rule_dtype ruled_is;
      long = rows_are inputs l r c d left right ∙ fit ∙ ap Some (sym long);
      filled = column_slots-same _ (slot_at inputs t) rows (λ row h.
          ap (λ slot. slots_by rule.formula slot (operand_slot d row))
          (operand_slot-is inputs l c row left (operand_row-left _ _ rows row fit h))
          ∙ ap (slots_by rule.formula (slot_at inputs l (operand_row (row_count inputs l) row)))
          (operand_slot-is inputs r d row right (operand_row-right _ _ rows row fit h))
          ∙ ap (λ rules. rule_slots rules (slot_at inputs l (operand_row (row_count inputs l) row))
          (slot_at inputs r (operand_row (row_count inputs r) row))) (sym ruled_is))
          ∙ ap (column_slots (slot_at inputs t)) (sym long);
      flagged = refl;
    }

-- the refusal of two columns
refusal_of_binary : (inputs : List Column) (node : ℕ) (op : BinOp) (l r : Tree) (c d : Column) →
    IsColumnOf inputs l c → IsColumnOf inputs r d →
    refusal_at inputs node (Binary op l r)
    ≡ binary_refusal_at node (length c.slots) (length d.slots)
    (broadcast_length (length c.slots) (length d.slots))
    (result_ok (operator_rule op c.dtype d.dtype))
refusal_of_binary inputs node op l r c d left right =
    rw (
      row_count-is inputs l c left,
      row_count-is inputs r d right,
      rows_are inputs l r c d left right,
      rule_is inputs op l r c d left right,
    ) refl

-- the table refuses with one cause, for which a node is unsupported
refused_by : (rules : Option OperatorRule) (error e : PolarsError) → ok_or rules error ≡ Err e →
    error ≡ e
refused_by None error e h = cc
refused_by (Some rule) error e h = cc

operator_refusal : (node : ℕ) (op : BinOp) (left right : DataType) (e : PolarsError) →
    operator_rule op left right ≡ Err e → at_node node e ≡ refusals.Unsupported node
operator_refusal node op left right e h =
    ap (at_node node)
    (sym (refused_by (listed_rule op left right) (unsupported (name_of_op op) left right) e h))

-- what two columns answer, by their lengths and the rule of the table
due_binary : (inputs : List Column) (refused : Option EvalError) (node : ℕ) (t : Tree)
    (c d : Column) (fit : Option ℕ) (rules : Result OperatorRule PolarsError) →
    refused ≡ binary_refusal_at node (length c.slots) (length d.slots) fit (result_ok rules) →
    ((e : PolarsError) → rules ≡ Err e → at_node node e ≡ refusals.Unsupported node) →
    ((rows : ℕ) (rule : OperatorRule) → fit ≡ Some rows → rules ≡ Ok rule →
    IsColumnOf inputs t (binary_column c d rows rule)) →
    IsDueBy inputs refused t (numbered node (binary_by c d fit rules))
due_binary inputs refused node t c d None rules same told is = same
due_binary inputs refused node t c d (Some rows) (Err e) same told is =
    same ∙ ap Some (sym (told e refl))
due_binary inputs refused node t c d (Some rows) (Ok rule) same told is =
    record { fine = same; column_is = is rows rule refl refl }

-- two operands that are found
pub found_binary : (inputs : List Column) (numbers : Numbers) (op : BinOp) (l r : Tree)
    (c d : Column) (answer : Result Chunked EvalError) → IsFine inputs (left_of numbers) l c →
    IsFine inputs (right_of numbers) r d →
    GivesBy column_of answer (numbered (number_at numbers) (binary_of op c d)) →
    IsFound inputs numbers (Binary op l r) answer
found_binary inputs numbers op l r c d answer left right gives =
    let t = Binary op l r in
    let node = number_at numbers in
    found_due inputs (first_refusal inputs numbers t) t (numbered node (binary_of op c d)) answer
    (due_binary inputs (first_refusal inputs numbers t) node t c d
    (broadcast_length (length c.slots) (length d.slots)) (operator_rule op c.dtype d.dtype)
    (rw (left.fine, right.fine) refl
    ∙ refusal_of_binary inputs node op l r c d left.column_is right.column_is)
    (operator_refusal node op c.dtype d.dtype)
    (λ rows rule fit ruled.
    column_of_binary inputs op l r c d rows rule left.column_is right.column_is fit ruled))
    gives

-- the numbers of two operands and of the node above them, as they are counted
pub numbers_of_both : (first second node : ℕ) (op : BinOp) (l r : Tree) →
    second ≡ first + node_count l → node ≡ second + node_count r →
    numbers_from first (Binary op l r)
    ≡ Join node (numbers_from first l) (numbers_from second r)
numbers_of_both first second node op l r at next =
    ap (λ m. Join (m + node_count r) (numbers_from first l) (numbers_from m r)) (sym at)
    ∙ ap (λ n. Join n (numbers_from first l) (numbers_from second r)) (sym next)

-- two operands that are found, where the nodes are numbered from `first` on
pub found_binary_from : (inputs : List Column) (first second node : ℕ) (op : BinOp) (l r : Tree)
    (c d : Column) (answer : Result Chunked EvalError) → second ≡ first + node_count l →
    node ≡ second + node_count r → IsFine inputs (numbers_from first l) l c →
    IsFine inputs (numbers_from second r) r d →
    GivesBy column_of answer (numbered node (binary_of op c d)) →
    IsFound inputs (numbers_from first (Binary op l r)) (Binary op l r) answer
found_binary_from inputs first second node op l r c d answer at next left right gives =
    let P : Numbers → Type 0 = λ numbers. IsFound inputs numbers (Binary op l r) answer in
    subst P (sym (numbers_of_both first second node op l r at next))
    (found_binary inputs (Join node (numbers_from first l) (numbers_from second r)) op l r c d
    answer left right gives)

-- a refusal below the left operand is that of the whole
pub refused_left : (inputs : List Column) (numbers : Numbers) (op : BinOp) (l r : Tree)
    (error : EvalError) → IsFound inputs (left_of numbers) l (Err error) →
    IsFound inputs numbers (Binary op l r) (Err error)
refused_left inputs numbers op l r error = Unless-map error (λ h. rw h refl)

-- a refusal below the right operand is that of the whole, where the left one is not refused
pub refused_right : (inputs : List Column) (numbers : Numbers) (op : BinOp) (l r : Tree)
    (c : Column) (error : EvalError) → IsFine inputs (left_of numbers) l c →
    IsFound inputs (right_of numbers) r (Err error) →
    IsFound inputs numbers (Binary op l r) (Err error)
refused_right inputs numbers op l r c error left =
    Unless-map error (λ h. rw (left.fine, h) refl)

-- the steps of two operands and of the node above them
pub steps_binary : (inputs : List Column) (numbers : Numbers) (before mid last after : ℕ)
    (op : BinOp) (l r : Tree) (answer : Result Chunked EvalError) →
    IsFound inputs numbers (Binary op l r) answer →
    mid ≡ before + step_count inputs l → last ≡ mid + step_count inputs r →
    IfOk answer (λ found. after ≡ last + length found.column.slots) →
    OnOk answer (after ≡ before + step_count inputs (Binary op l r))
steps_binary inputs numbers before mid last after op l r answer found low second high =
    steps_above inputs numbers before last after (step_count inputs l + step_count inputs r)
    (Binary op l r) answer refl found (omega (arith, low, second)) high
