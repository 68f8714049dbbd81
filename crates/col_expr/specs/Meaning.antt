-- The name, the type, the rows and each slot of a node, over the columns of an expression.
use Rattle.std.specs.Prelude.{ℕ, ℤ, ◌+◌, Bool, false, List, [], length, Option, Some, None}
use Rattle.std.specs.Prelude.{slice_get, slice_index_or, unwrap_or, if◌then◌else◌}
use Rattle.std.specs.Option.{option_map, option_and_then}
use Rattle.std.specs.Result.{result_ok}
use Rattle.col_types.specs.DataType.{is_expression_target}
use Rattle.col_types.specs.declared.data_type.DataType.{DataType, Boolean}
use Rattle.col_types.specs.declared.cast_options.CastOptions.{CastOptions}
use Rattle.col_types.specs.declared.time_unit.TimeUnit.{TimeUnit}
use Rattle.col_types.specs.declared.operator.BinOp.{BinOp}
use Rattle.col_types.specs.declared.operator.ScalarOp.{ScalarOp}
use Rattle.col_types.specs.declared.is_sorted.IsSorted.{IsSorted}
use Rattle.col_types.specs.declared.is_sorted.IsSorted.TheVariants.{Not}
use Rattle.col_model.specs.Value.{Value}
use Rattle.col_model.specs.Column.{Column}
use Rattle.col_model.specs.Broadcast.{column_slots, broadcast_length, operand_row, row_before}
use Rattle.col_model.specs.CastTable.{CastRule, cast_rule, resolved_target}
use Rattle.col_model.specs.OperatorTable.{OperatorRule, operator_rule}
use Rattle.col_model.specs.ScalarTable.{scalar_right_rule, scalar_left_rule, is_scalar_of}
use Rattle.col_model.specs.ScalarTable.{unit_change_rule}
use Rattle.col_model.specs.Formula.{slot_by, slots_by}
use Rattle.col_model.specs.ColumnCalls.{cast_slot, cast_flag}
use Rattle.col_expr.specs.Tree.{Tree, Input, Cast, Binary, ScalarRight, ScalarLeft, InUnit, Shift}

-- ---- the rules of the tables, where the operands have types

-- the rule of a cast; what its target leaves open is taken from the operand
abbrev pub cast_rule_for : Option DataType → DataType → CastOptions → Option CastRule
cast_rule_for None target options = None
cast_rule_for (Some from) target options = cast_rule from (resolved_target from target) options

-- the rule of an operator
abbrev pub operator_rule_for : BinOp → Option DataType → Option DataType → Option OperatorRule
operator_rule_for op None right = None
operator_rule_for op (Some left) None = None
operator_rule_for op (Some left) (Some right) = result_ok (operator_rule op left right)

-- the rule of an operand with an integer on its right
abbrev pub scalar_right_rule_for : Option DataType → ScalarOp → ℤ → Option OperatorRule
scalar_right_rule_for None op value = None
scalar_right_rule_for (Some dtype) op value = scalar_right_rule dtype op value

-- the rule of an integer with an operand on its right
abbrev pub scalar_left_rule_for : ℤ → BinOp → Option DataType → Option OperatorRule
scalar_left_rule_for value op None = None
scalar_left_rule_for value op (Some dtype) = scalar_left_rule value op dtype

-- the rule of a change to a unit
abbrev pub unit_change_rule_for : Option DataType → TimeUnit → Option OperatorRule
unit_change_rule_for None unit = None
unit_change_rule_for (Some dtype) unit = unit_change_rule dtype unit

-- the rows of two operands joined, where both have rows that fit each other
abbrev pub broadcast_length_for : Option ℕ → Option ℕ → Option ℕ
broadcast_length_for None right = None
broadcast_length_for (Some left) None = None
broadcast_length_for (Some left) (Some right) = broadcast_length left right

-- the type of a cast, none for a target that no expression can have
abbrev pub cast_dtype : Option DataType → DataType → Option DataType
cast_dtype from target =
    if is_expression_target target then option_map (λ dtype. resolved_target dtype target) from
    else None

-- the type of a rule's answer
abbrev pub rule_dtype : Option OperatorRule → Option DataType
rule_dtype rule = option_map (λ (r : OperatorRule). r.dtype) rule

-- the slot of a rule on one slot, null where there is no rule
abbrev pub rule_slot : Option OperatorRule → Option Value → Option Value
rule_slot None slot = None
rule_slot (Some rule) slot = slot_by rule.formula slot

-- the slot of a rule on two slots, null where there is no rule
abbrev pub rule_slots : Option OperatorRule → Option Value → Option Value → Option Value
rule_slots None left right = None
rule_slots (Some rule) left right = slots_by rule.formula left right

-- whether the operand's type has a word, and the word has the integer
abbrev pub is_scalar_for : Option DataType → ℤ → Bool
is_scalar_for None k = false
is_scalar_for (Some dtype) k = is_scalar_of dtype k

-- the slot of a scalar's rule, null where the operand's word doesn't have the integer
abbrev pub scalar_slot : Option DataType → ℤ → Option OperatorRule → Option Value → Option Value
scalar_slot dtype k rule slot = if is_scalar_for dtype k then rule_slot rule slot else None

-- ---- a node

-- the name of the leftmost input
abbrev pub name_of : List Column → Tree → Option (List ℕ)
name_of inputs (Input index) = option_map (λ (c : Column). c.name) (slice_get inputs index)
name_of inputs (Cast operand dtype options) = name_of inputs operand
name_of inputs (Binary op left right) = name_of inputs left
name_of inputs (ScalarRight operand op value) = name_of inputs operand
name_of inputs (ScalarLeft value op operand) = name_of inputs operand
name_of inputs (InUnit operand unit) = name_of inputs operand
name_of inputs (Shift operand periods) = name_of inputs operand

-- the type of a node, none where an operand has none, a cast's target is bad, or no table has a
-- rule
abbrev pub dtype_of : List Column → Tree → Option DataType
dtype_of inputs (Input index) = option_map (λ (c : Column). c.dtype) (slice_get inputs index)
dtype_of inputs (Cast operand target options) = cast_dtype (dtype_of inputs operand) target
dtype_of inputs (Binary op left right) =
    rule_dtype (operator_rule_for op (dtype_of inputs left) (dtype_of inputs right))
dtype_of inputs (ScalarRight operand op k) =
    rule_dtype (scalar_right_rule_for (dtype_of inputs operand) op k)
dtype_of inputs (ScalarLeft k op operand) =
    rule_dtype (scalar_left_rule_for k op (dtype_of inputs operand))
dtype_of inputs (InUnit operand unit) =
    rule_dtype (unit_change_rule_for (dtype_of inputs operand) unit)
dtype_of inputs (Shift operand periods) = dtype_of inputs operand

-- how many rows a node has, none where an operand has none or two operands don't fit each other
abbrev pub rows_of : List Column → Tree → Option ℕ
rows_of inputs (Input index) = option_map (λ (c : Column). length c.slots) (slice_get inputs index)
rows_of inputs (Cast operand dtype options) = rows_of inputs operand
rows_of inputs (Binary op left right) =
    broadcast_length_for (rows_of inputs left) (rows_of inputs right)
rows_of inputs (ScalarRight operand op value) = rows_of inputs operand
rows_of inputs (ScalarLeft value op operand) = rows_of inputs operand
rows_of inputs (InUnit operand unit) = rows_of inputs operand
rows_of inputs (Shift operand periods) = rows_of inputs operand

-- how many rows a node has, and 0 where that isn't defined
abbrev pub row_count : List Column → Tree → ℕ
row_count inputs tree = unwrap_or (rows_of inputs tree) 0

-- the slot of an input, null past its rows
abbrev pub input_slot : Option Column → ℕ → Option Value
input_slot None row = None
input_slot (Some column) row = slice_index_or column.slots row None

-- the slot of a node in a row: one formula on the operands' slots in that row
abbrev pub slot_at : List Column → Tree → ℕ → Option Value
slot_at inputs (Input index) row = input_slot (slice_get inputs index) row
slot_at inputs (Cast operand target options) row =
    cast_slot (cast_rule_for (dtype_of inputs operand) target options)
    (slot_at inputs operand row)
slot_at inputs (Binary op left right) row =
    rule_slots (operator_rule_for op (dtype_of inputs left) (dtype_of inputs right))
    (slot_at inputs left (operand_row (row_count inputs left) row))
    (slot_at inputs right (operand_row (row_count inputs right) row))
slot_at inputs (ScalarRight operand op k) row =
    scalar_slot (dtype_of inputs operand) k (scalar_right_rule_for (dtype_of inputs operand) op k)
    (slot_at inputs operand row)
slot_at inputs (ScalarLeft k op operand) row =
    scalar_slot (dtype_of inputs operand) k (scalar_left_rule_for k op (dtype_of inputs operand))
    (slot_at inputs operand row)
slot_at inputs (InUnit operand unit) row =
    rule_slot (unit_change_rule_for (dtype_of inputs operand) unit) (slot_at inputs operand row)
slot_at inputs (Shift operand periods) row =
    option_and_then (slot_at inputs operand) (row_before (row_count inputs operand) periods row)

-- the slots of a node in all its rows
abbrev pub slots_of : List Column → Tree → List (Option Value)
slots_of inputs tree = column_slots (slot_at inputs tree) (row_count inputs tree)

-- the flag of a cast of an operand of this type, these slots and this flag
abbrev pub cast_flag_for : Option DataType → DataType → List (Option Value) → IsSorted → IsSorted
cast_flag_for None target slots flag = Not
cast_flag_for (Some from) target slots flag =
    cast_flag from (resolved_target from target) slots flag

-- the sorted flag of a node: an input's own, a cast's where the cast keeps the order of its
-- operand's slots, and no claim elsewhere
abbrev pub flag_of : List Column → Tree → IsSorted
flag_of inputs (Input index) =
    unwrap_or (option_map (λ (c : Column). c.flag) (slice_get inputs index)) Not
flag_of inputs (Cast operand target options) =
    cast_flag_for (dtype_of inputs operand) target (slots_of inputs operand)
    (flag_of inputs operand)
flag_of inputs _ = Not

-- the column of an expression of which no node is refused
abbrev pub result_column : List Column → Tree → Column
result_column inputs tree = record {
  name = unwrap_or (name_of inputs tree) [];
  dtype = unwrap_or (dtype_of inputs tree) Boolean;
  slots = slots_of inputs tree;
  flag = flag_of inputs tree;
}

-- ---- the work

-- the slots of all nodes that aren't inputs
abbrev pub step_count : List Column → Tree → ℕ
step_count inputs (Input index) = 0
step_count inputs (Cast operand dtype options) =
    step_count inputs operand + row_count inputs operand
step_count inputs (Binary op left right) =
    step_count inputs left + step_count inputs right
    + row_count inputs (Binary op left right)
step_count inputs (ScalarRight operand op value) =
    step_count inputs operand + row_count inputs operand
step_count inputs (ScalarLeft value op operand) =
    step_count inputs operand + row_count inputs operand
step_count inputs (InUnit operand unit) = step_count inputs operand + row_count inputs operand
step_count inputs (Shift operand periods) = step_count inputs operand + row_count inputs operand
