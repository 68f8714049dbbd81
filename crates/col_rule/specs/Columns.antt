-- Columns under a rule: a function of the integers of one slot, or of two.
use Rattle.std.specs.Prelude.{ℕ, ℤ, length, map, Option, Some, None, Result, Ok, Err}
use Rattle.col_types.specs.declared.data_type.DataType.{DataType}
use Rattle.col_types.specs.declared.is_sorted.IsSorted.TheVariants.{Not}
use Rattle.col_types.specs.declared.error.PolarsError.{PolarsError}
use Rattle.col_types.specs.declared.error.PolarsError.TheVariants as errors
use Rattle.col_model.specs.Value.{on_slot, on_slots}
use Rattle.col_model.specs.Column.{Column}
use Rattle.col_model.specs.Chunked.{Chunked}
use Rattle.col_model.specs.Broadcast.{broadcast_length, column_slots}
use Rattle.col_model.specs.OperatorCalls.{operand_slot}

-- the column of the type with a function at each slot, null where the slot is
abbrev pub mapped_column : (ℤ → Option ℤ) → DataType → Column → Column
mapped_column f dtype column =
    record column { dtype = dtype; slots = map (on_slot f) column.slots; flag = Not }

-- the same in the same chunks
abbrev pub mapped_chunks : (ℤ → Option ℤ) → DataType → Chunked → Chunked
mapped_chunks f dtype chunked = record {
  column = mapped_column f dtype chunked.column;
  chunk_lengths = chunked.chunk_lengths;
}

-- so many rows of the type with a function of the slots of two columns and the left column's name;
-- without a number of rows the lengths don't fit each other
abbrev pub paired_by : (ℤ → ℤ → Option ℤ) → DataType → Column → Column → Option ℕ →
    Result Column PolarsError
paired_by f dtype left right None =
    Err (errors.Lengths (length left.slots) (length right.slots))
paired_by f dtype left right (Some rows) = Ok (record {
  name = left.name;
  dtype = dtype;
  slots = column_slots (λ row. on_slots f (operand_slot left row) (operand_slot right row)) rows;
  flag = Not;
})

-- two columns under a function of their slots, one row standing for all, or why they are not
abbrev pub paired_column : (ℤ → ℤ → Option ℤ) → DataType → Column → Column →
    Result Column PolarsError
paired_column f dtype left right =
    paired_by f dtype left right
    (broadcast_length (length left.slots) (length right.slots))
