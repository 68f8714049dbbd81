-- What operators, scalar forms, changes of unit and shifts of columns answer, want of memory aside.
use Rattle.std.specs.Prelude.{ℕ, ℤ, length, map, Option, Some, None, slice_index_or, Result, Ok}
use Rattle.std.specs.Prelude.{Err, if◌then◌else◌}
use Rattle.std.specs.Option.{option_and_then}
use Rattle.col_types.specs.declared.time_unit.TimeUnit.{TimeUnit}
use Rattle.col_types.specs.declared.operator.BinOp.{BinOp}
use Rattle.col_types.specs.declared.operator.ScalarOp.{ScalarOp}
use Rattle.col_types.specs.declared.operator.OpName.{OpName}
use Rattle.col_types.specs.declared.operator.OpName.TheVariants as names
use Rattle.col_types.specs.declared.is_sorted.IsSorted.TheVariants.{Not}
use Rattle.col_types.specs.declared.error.PolarsError.{PolarsError}
use Rattle.col_types.specs.declared.error.PolarsError.TheVariants as errors
use Rattle.col_model.specs.Value.{Value}
use Rattle.col_model.specs.Column.{Column}
use Rattle.col_model.specs.Formula.{slot_by, slots_by}
use Rattle.col_model.specs.OperationNames.{name_of_op, name_of_scalar_op, unsupported}
use Rattle.col_model.specs.Broadcast.{column_slots, broadcast_length, operand_row, row_before}
use Rattle.col_model.specs.OperatorTable.{OperatorRule, operator_rule}
use Rattle.col_model.specs.ScalarTable.{scalar_right_rule, scalar_left_rule, is_scalar_of}
use Rattle.col_model.specs.ScalarTable.{unit_change_rule}

-- ---- slots

-- the slot of a column in a row, null past its rows
abbrev pub slot_in : Column → ℕ → Option Value
slot_in column row = slice_index_or column.slots row None

-- the slot that an operand has for an answer's row
abbrev pub operand_slot : Column → ℕ → Option Value
operand_slot column row = slot_in column (operand_row (length column.slots) row)

-- ---- two columns

-- so many rows of two columns under a rule, with the left column's name
abbrev pub binary_column : Column → Column → ℕ → OperatorRule → Column
binary_column left right rows rule = record {
  name = left.name;
  dtype = rule.dtype;
  slots =
      column_slots
      (λ row. slots_by rule.formula (operand_slot left row) (operand_slot right row)) rows;
  flag = Not;
}

-- the column, where there are a number of rows and a rule; lengths are tested before the table
abbrev pub binary_by : Column → Column → Option ℕ → Result OperatorRule PolarsError →
    Result Column PolarsError
binary_by left right None rule = Err (errors.Lengths (length left.slots) (length right.slots))
binary_by left right (Some rows) (Err refusal) = Err refusal
binary_by left right (Some rows) (Ok rule) = Ok (binary_column left right rows rule)

-- two columns joined by an operator, or why they are not
abbrev pub binary_of : BinOp → Column → Column → Result Column PolarsError
binary_of op left right =
    binary_by left right (broadcast_length (length left.slots) (length right.slots))
    (operator_rule op left.dtype right.dtype)

-- ---- one column

-- each slot of a column under a rule
abbrev pub ruled_column : Column → OperatorRule → Column
ruled_column column rule =
    record column {
      dtype = rule.dtype;
      slots = map (slot_by rule.formula) column.slots;
      flag = Not;
    }

-- the column by a rule for its type and an integer; types are tested before the integer
abbrev pub scalar_by : OpName → ℤ → Column → Option OperatorRule → Result Column PolarsError
scalar_by op k column None = Err (unsupported op column.dtype column.dtype)
scalar_by op k column (Some rule) =
    if is_scalar_of column.dtype k then Ok (ruled_column column rule) else Err (errors.Scalar k)

-- a column joined with an integer on its right, or why it is not
abbrev pub scalar_right_of : Column → ScalarOp → ℤ → Result Column PolarsError
scalar_right_of column op k =
    scalar_by (name_of_scalar_op op) k column (scalar_right_rule column.dtype op k)

-- an integer joined with a column on its right, or why it is not
abbrev pub scalar_left_of : ℤ → BinOp → Column → Result Column PolarsError
scalar_left_of k op column = scalar_by (name_of_op op) k column (scalar_left_rule k op column.dtype)

-- the column by a rule of the table of units
abbrev pub in_unit_by : Column → Option OperatorRule → Result Column PolarsError
in_unit_by column None = Err (unsupported names.Coerce column.dtype column.dtype)
in_unit_by column (Some rule) = Ok (ruled_column column rule)

-- the column in another unit, wrapped where it has no room there, or why it is not
abbrev pub in_unit_of : Column → TimeUnit → Result Column PolarsError
in_unit_of column unit = in_unit_by column (unit_change_rule column.dtype unit)

-- the column with each slot so many rows further down; a row that none moves to is null
abbrev pub shifted : Column → ℤ → Column
shifted column periods = record column {
  slots =
      column_slots
      (λ row. option_and_then (slot_in column) (row_before (length column.slots) periods row))
      (length column.slots);
  flag = Not;
}
