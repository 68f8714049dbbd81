-- Civil values by their numbers, and what a column's slots show of them.
use Rattle.std.specs.Prelude.{◌+◌, ◌*ℤ◌, ℕ, ℤ, pos, neg_ℤ, Bool, List, [], ◌∷◌, map}
use Rattle.std.specs.Prelude.{Option, Some, None, Result, Ok, Err, if◌then◌else◌}
use Rattle.std.specs.Option.{option_map}
use Rattle.col_types.specs.PolarsError.{seen_by}
use Rattle.col_types.specs.TimeUnit.{nanos_per_day, nanos_per_tick}
use Rattle.col_types.specs.declared.error.PolarsError.{PolarsError}
use Rattle.col_types.specs.declared.error.PolarsError.TheVariants.{Calendar}
use Rattle.col_types.specs.declared.time_unit.TimeUnit.{TimeUnit}
use Rattle.col_model.specs.Arithmetic.{Interval, floor_by, is_within}
use Rattle.col_model.specs.Column.{Column}
use Rattle.col_model.specs.Value.{Value, Flat, Whole}
use Rattle.col_logical.specs.Logical.{unit_of}

-- the numbers of the days that the calendar has: from -9999-01-01 to 9999-12-31
abbrev pub calendar_days : Interval
calendar_days = record { low = neg_ℤ (pos 4371587); high = pos 2932896 }

-- whether the calendar has the day of this number
abbrev pub is_calendar_day : ℤ → Bool
is_calendar_day day = is_within calendar_days day

-- whether the calendar has the day of a moment, in nanoseconds since 1970-01-01T00:00
abbrev pub is_calendar_moment : ℤ → Bool
is_calendar_moment nanos = is_calendar_day (floor_by nanos nanos_per_day)

-- the nanoseconds of a tick
abbrev pub nanos_of_tick : TimeUnit → ℤ → ℤ
nanos_of_tick unit tick = tick *ℤ pos (nanos_per_tick unit)

-- what a reader is given of a slot, its value seen by its number
abbrev pub Shown : Type 0
Shown = Option (Result ℤ PolarsError)

-- an answer of an iterator, its value seen by its number
abbrev pub shown_by : {A : Type 0} → (A → ℤ) → Option (Result A PolarsError) → Shown
shown_by number item = option_map (seen_by number) item

-- the value of a number, refused where there is none
abbrev pub shown_number : (ℤ → Bool) → ℕ → ℤ → Result ℤ PolarsError
shown_number has row number = if has number then Ok number else Err (Calendar row)

-- what the slot of a row shows: nothing where it is null
abbrev pub shown_slot : (ℤ → Bool) → (ℤ → ℤ) → ℕ → Option Value → Shown
shown_slot has number row (Some (Flat (Whole x))) = Some (shown_number has row (number x))
shown_slot has number row _ = None

-- what slots show, the first of which stands in this row
abbrev pub shown_slots : (ℤ → Bool) → (ℤ → ℤ) → ℕ → List (Option Value) → List Shown
shown_slots has number row [] = []
shown_slots has number row (slot ∷ slots) =
    shown_slot has number row slot ∷ shown_slots has number (row + 1) slots

-- dates, by the numbers of their days
abbrev pub shown_dates : ℕ → List (Option Value) → List Shown
shown_dates = shown_slots is_calendar_day (λ day. day)

-- moments, by their nanoseconds
abbrev pub shown_moments : TimeUnit → ℕ → List (Option Value) → List Shown
shown_moments unit = shown_slots is_calendar_moment (nanos_of_tick unit)

-- what a slot shows in a column of times: its nanoseconds, which are never refused
abbrev pub shown_time : Option Value → Shown
shown_time (Some (Flat (Whole x))) = Some (Ok x)
shown_time _ = None

-- times of the day, by their nanoseconds
abbrev pub shown_times : List (Option Value) → List Shown
shown_times slots = map shown_time slots

-- moments of a unit, where there is one
abbrev pub shown_in : Option TimeUnit → List (Option Value) → List Shown
shown_in (Some unit) slots = shown_moments unit 0 slots
shown_in None slots = []

-- the moments of a column, in the unit of its type
abbrev pub shown_datetimes : Column → List Shown
shown_datetimes column = shown_in (unit_of column.dtype) column.slots
