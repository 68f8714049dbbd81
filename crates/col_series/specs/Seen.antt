-- A value of a column, without what it borrows.
use Rattle.std.specs.Prelude.{ℕ, ℤ, List, Option, Some, Result}
use Rattle.std.specs.Option.{option_copied}
use Rattle.col_types.specs.declared.time_unit.TimeUnit.{TimeUnit}
use Rattle.col_types.specs.declared.data_type.DataType.{DataType, Date, Datetime, Duration, Time}
use Rattle.col_types.specs.declared.data_type.DataType.{Int64}
use Rattle.col_types.specs.PolarsError.{seen_by}
use Rattle.col_types.specs.declared.error.PolarsError.{PolarsError}
use Rattle.col_model.specs.Value.{Value, Flat, Whole}
use Rattle.col_model.specs.Column.{Column}
use Rattle.col_model.specs.ColumnCalls.{slot_of}
use Rattle.col_series.specs.declared.any_value.AnyValue.{AnyValue}
use Rattle.col_series.specs.declared.any_value.AnyValue.TheVariants as any

-- a value, with the bytes of the zone's name in place of the zone
pub data Seen : Type 0 where
  null : Seen
  date : ℤ → Seen
  datetime : ℤ → TimeUnit → Option (List ℕ) → Seen
  duration : ℤ → TimeUnit → Seen
  time : ℤ → Seen
  int64 : ℤ → Seen

-- what a borrowed value shows
abbrev pub value_seen : AnyValue → Seen
value_seen any.Null = null
value_seen (any.Date day) = date day
value_seen (any.Datetime tick unit zone) = datetime tick unit (option_copied zone)
value_seen (any.Duration tick unit) = duration tick unit
value_seen (any.Time nanos) = time nanos
value_seen (any.Int64 x) = int64 x

-- what a slot shows in a column of the type
abbrev pub slot_seen : DataType → Option Value → Seen
slot_seen Date (Some (Flat (Whole day))) = date day
slot_seen (Datetime unit zone) (Some (Flat (Whole tick))) = datetime tick unit zone
slot_seen (Duration unit) (Some (Flat (Whole tick))) = duration tick unit
slot_seen Time (Some (Flat (Whole nanos))) = time nanos
slot_seen Int64 (Some (Flat (Whole x))) = int64 x
slot_seen _ _ = null

-- what the column shows at an index, or that the index is past the rows
abbrev pub seen_at : Column → ℕ → Result Seen PolarsError
seen_at column index = seen_by (slot_seen column.dtype) (slot_of column index)
