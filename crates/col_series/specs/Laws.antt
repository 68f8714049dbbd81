-- What is true of all columns.
use Rattle.std.specs.Prelude.{◌≡◌, ◌-◌, ◌≤ℤ◌, ℕ, ℤ, pos, Ok, Some}
use Rattle.col_types.specs.TimeUnit.{nanos_per_day}
use Rattle.col_types.specs.declared.cast_options.CastOptions.{CastOptions}
use Rattle.col_model.specs.Column.{Column}
use Rattle.col_model.specs.Value.{whole}
use Rattle.col_model.specs.ColumnCalls.{cast_of}
use Rattle.col_model.specs.OperatorCalls.{slot_in}

-- a cast to the column's own type gives the column
abbrev pub KeepsColumn : Column → CastOptions → Type 0
KeepsColumn column options = cast_of column column.dtype options ≡ Ok column

-- an integer from 0 to the last nanosecond of a day
pub record IsTimeOfDay (nanos : ℤ) : Type 0 where
  pub from_midnight : pos 0 ≤ℤ nanos
  pub to_last : nanos ≤ℤ pos (nanos_per_day - 1)

-- each valid slot of the column is a time of the day
abbrev pub TimesLieInTheDay : Column → Type 0
TimesLieInTheDay column =
    (row : ℕ) (nanos : ℤ) → slot_in column row ≡ Some (whole nanos) → IsTimeOfDay nanos
