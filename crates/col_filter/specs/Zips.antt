-- Rows of two columns, as a mask picks between them.
use Rattle.std.specs.Prelude.{ℕ, List, length, map, Option, Some, None, Result, Ok, Err, is_some}
use Rattle.std.specs.Prelude.{if◌then◌else◌}
use Rattle.std.specs.List.{range_with_len}
use Rattle.col_types.specs.PolarsError.{seen_by}
use Rattle.col_types.specs.declared.is_sorted.IsSorted.TheVariants.{Not}
use Rattle.col_types.specs.declared.error.PolarsError.{PolarsError}
use Rattle.col_types.specs.declared.error.PolarsError.TheVariants as errors
use Rattle.col_model.specs.Value.{Value}
use Rattle.col_model.specs.Column.{Column}
use Rattle.col_model.specs.Broadcast.{broadcast_length, column_slots}
use Rattle.col_boolean.specs.Sums.{slot_for}
use Rattle.col_filter.specs.Filters.{is_true_slot}

-- the slots that an operand has for so many rows from one on
abbrev pub slots_for : List (Option Value) → ℕ → ℕ → List (Option Value)
slots_for slots from count = map (slot_for slots) (range_with_len from count)

-- the slot of a row: the first column's where the mask is true, else the second one's; one row of
-- any of the three stands for all
abbrev pub zipped_slot :
    List (Option Value) → List (Option Value) → List (Option Value) → ℕ → Option Value
zipped_slot mask first second row =
    if is_true_slot (slot_for mask row) then slot_for first row else slot_for second row

-- the slots of so many rows
abbrev pub zipped_slots :
    List (Option Value) → List (Option Value) → List (Option Value) → ℕ → List (Option Value)
zipped_slots mask first second rows = column_slots (zipped_slot mask first second) rows

-- a number of rows where there is one, else that two others don't fit each other
abbrev pub rows_or : ℕ → ℕ → Option ℕ → Result ℕ PolarsError
rows_or left right (Some rows) = Ok rows
rows_or left right None = Err (errors.Lengths left right)

-- the common number of rows, or that two numbers don't fit each other
abbrev pub common_rows : ℕ → ℕ → Result ℕ PolarsError
common_rows left right = rows_or left right (broadcast_length left right)

-- the number of rows with those of one more column
abbrev pub rows_with : ℕ → Result ℕ PolarsError → Result ℕ PolarsError
rows_with more (Ok rows) = common_rows rows more
rows_with more (Err refusal) = Err refusal

-- the number of rows that the first column and the mask give, and then the second column
abbrev pub met_rows : ℕ → ℕ → ℕ → Result ℕ PolarsError
met_rows mask first second = rows_with second (common_rows first mask)

-- that two numbers of rows don't fit each other: they are equal, or one of them is 1
abbrev pub apart : ℕ → ℕ → Option PolarsError
apart left right =
    if is_some (broadcast_length left right) then None else Some (errors.Lengths left right)

-- a refusal, or else an answer
abbrev pub refused_or : Option PolarsError → Result ℕ PolarsError → Result ℕ PolarsError
refused_or None answer = answer
refused_or (Some refusal) answer = Err refusal

-- the number of rows of three columns, or the first pair that doesn't fit: the two columns, the
-- first one and the mask, the second one and the mask
abbrev pub zipped_rows : ℕ → ℕ → ℕ → Result ℕ PolarsError
zipped_rows mask first second =
    refused_or (apart first second)
    (refused_or (apart first mask) (refused_or (apart second mask) (met_rows mask first second)))

-- so many rows of two columns
abbrev pub zipped_column : List (Option Value) → Column → Column → ℕ → Column
zipped_column mask first second rows =
    record first { slots = zipped_slots mask first.slots second.slots rows; flag = Not }

-- the rows of two columns, or which numbers of rows don't fit each other
abbrev pub zipped : List (Option Value) → Column → Column → Result Column PolarsError
zipped mask first second =
    seen_by (zipped_column mask first second)
    (zipped_rows (length mask) (length first.slots) (length second.slots))
