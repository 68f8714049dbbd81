-- Laws of operators: what one adds the other subtracts.
use Rattle.std.specs.Prelude.{◌≡◌, ℕ, List, length, Option, Some, None, Result, Ok, Err}
use Rattle.col_types.specs.declared.time_unit.TimeUnit.{TimeUnit}
use Rattle.col_types.specs.declared.data_type.DataType.{DataType, Date, Datetime, Duration}
use Rattle.col_types.specs.declared.is_sorted.IsSorted.TheVariants.{Not}
use Rattle.col_types.specs.declared.operator.BinOp.TheVariants.{Add, Sub}
use Rattle.col_types.specs.declared.error.PolarsError.{PolarsError}
use Rattle.col_model.specs.Value.{Value}
use Rattle.col_model.specs.Broadcast.{column_slots}
use Rattle.col_model.specs.Column.{Column, IsValidColumn}
use Rattle.col_model.specs.OperatorCalls.{binary_of, slot_in}

-- a slot, null where the other is
abbrev pub where_valid : Option Value → Option Value → Option Value
where_valid slot None = None
where_valid slot (Some other) = slot

-- a column's slots, null in each row in which the other column is
abbrev pub slots_where_valid : Column → Column → List (Option Value)
slots_where_valid column other =
    column_slots (λ row. where_valid (slot_in column row) (slot_in other row)) (length column.slots)

-- two valid columns of these types and of one length
pub record ArePaired (left right : Column) (left_type right_type : DataType) : Type 0 where
  pub left_valid : IsValidColumn left
  pub right_valid : IsValidColumn right
  pub left_is : left.dtype ≡ left_type
  pub right_is : right.dtype ≡ right_type
  pub lengths : length left.slots ≡ length right.slots

-- a call on an answer, where there is one
abbrev pub and_then : Result Column PolarsError → (Column → Result Column PolarsError) →
    Result Column PolarsError
and_then (Ok column) call = call column
and_then (Err refusal) call = Err refusal

-- the lengths of time added to the moments, and then subtracted
abbrev pub added_then_subtracted : Column → Column → Result Column PolarsError
added_then_subtracted moments lengths =
    and_then (binary_of Add moments lengths) (λ later. binary_of Sub later lengths)

-- that gives the moments, also where the sum wrapped, but for the rows without a length
abbrev pub AddThenSubtract : Column → Column → TimeUnit → Option (List ℕ) → Type 0
AddThenSubtract moments lengths unit zone =
    ArePaired moments lengths (Datetime unit zone) (Duration unit)
    → added_then_subtracted moments lengths
    ≡ Ok (record moments { slots = slots_where_valid moments lengths; flag = Not })

-- what lies between the dates added to the second ones
abbrev pub subtracted_then_added : Column → Column → Result Column PolarsError
subtracted_then_added dates others =
    and_then (binary_of Sub dates others) (λ apart. binary_of Add others apart)

-- that gives the first dates under the second name, but for the rows without a second one
abbrev pub SubtractThenAdd : Column → Column → Type 0
SubtractThenAdd dates others = ArePaired dates others Date Date
    → subtracted_then_added dates others
    ≡ Ok (record others { slots = slots_where_valid dates others; flag = Not })
