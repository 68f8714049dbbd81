-- Sums of truth values.
use Rattle.std.specs.Prelude.{◌+ℤ◌, ℕ, ℤ, length, List, Option, Some, None, slice_index_or}
use Rattle.col_model.specs.Value.{Value, on_slots}
use Rattle.col_model.specs.Broadcast.{column_slots, operand_row}

-- the sum of two integers
abbrev pub sum_value : ℤ → ℤ → Option ℤ
sum_value x y = Some (x +ℤ y)

-- the slot that an operand has for an answer's row: one row stands for all
abbrev pub slot_for : List (Option Value) → ℕ → Option Value
slot_for slots row = slice_index_or slots (operand_row (length slots) row) None

-- so many sums, row by row, null where a row is
abbrev pub sum_slots : List (Option Value) → List (Option Value) → ℕ → List (Option Value)
sum_slots left right rows =
    column_slots (λ row. on_slots sum_value (slot_for left row) (slot_for right row)) rows
