-- Ticks of one unit as ticks of another.
use Rattle.std.specs.Prelude.{ℕ, ◌<◌, ◌/◌, pos, nat_lt, if◌then◌else◌}
use Rattle.std.specs.Int.{w64}
use Rattle.col_types.specs.TimeUnit.{nanos_per_tick, ticks_per_day}
use Rattle.col_types.specs.declared.time_unit.TimeUnit.{TimeUnit}
use Rattle.col_model.specs.Arithmetic.{Signed, word_values}
use Rattle.col_model.specs.Formula.{Formula, Constant, Product, FloorBy, TruncBy, Fit, Wrap}
use Rattle.col_model.specs.declared.ticks.UnitChange.{UnitChange}
use Rattle.col_model.specs.declared.ticks.UnitChange.TheVariants.{Finer, Same, Coarser}

-- the factor between two units, and which of them is the finer
abbrev pub unit_change : TimeUnit → TimeUnit → UnitChange
unit_change from to =
    if nat_lt (nanos_per_tick to) (nanos_per_tick from)
    then Finer (nanos_per_tick from / nanos_per_tick to)
    else if nat_lt (nanos_per_tick from) (nanos_per_tick to)
    then Coarser (nanos_per_tick to / nanos_per_tick from)
    else Same

-- a coarser unit's factor is not 0
abbrev pub IsProper : UnitChange → Type 0
IsProper (Finer factor) = Unit {0}
IsProper Same = Unit {0}
IsProper (Coarser factor) = 0 < factor

-- so many times the ticks
abbrev pub times : ℕ → Formula → Formula
times factor ticks = Product ticks (Constant (pos factor))

-- ticks in a finer unit, where 64 bits hold them
abbrev pub in_finer_unit : ℕ → Formula → Formula
in_finer_unit factor ticks = Fit (word_values (Signed w64)) (times factor ticks)

-- a moment in another unit: a coarser one rounds down
abbrev pub datetime_by : UnitChange → Formula → Formula
datetime_by (Finer factor) ticks = in_finer_unit factor ticks
datetime_by Same ticks = ticks
datetime_by (Coarser factor) ticks = FloorBy ticks factor

-- a length of time in another unit: a coarser one rounds towards zero
abbrev pub duration_by : UnitChange → Formula → Formula
duration_by (Finer factor) ticks = in_finer_unit factor ticks
duration_by Same ticks = ticks
duration_by (Coarser factor) ticks = TruncBy ticks factor

-- a moment of one unit in another
abbrev pub datetime_in_unit : TimeUnit → TimeUnit → Formula → Formula
datetime_in_unit from to ticks = datetime_by (unit_change from to) ticks

-- a length of time of one unit in another
abbrev pub duration_in_unit : TimeUnit → TimeUnit → Formula → Formula
duration_in_unit from to ticks = duration_by (unit_change from to) ticks

-- the moment at which a day begins, where 64 bits hold it
abbrev pub day_in_unit : TimeUnit → Formula → Formula
day_in_unit unit days = in_finer_unit (ticks_per_day unit) days

-- ---- changes of a column's unit, which wrap

-- ticks in a finer unit, wrapped to 64 bits
abbrev pub wrapped_in_finer_unit : ℕ → Formula → Formula
wrapped_in_finer_unit factor ticks = Wrap (Signed w64) (times factor ticks)

-- a moment in another unit, as `datetime_by` but wrapped
abbrev pub wrapped_datetime_by : UnitChange → Formula → Formula
wrapped_datetime_by (Finer factor) ticks = wrapped_in_finer_unit factor ticks
wrapped_datetime_by Same ticks = ticks
wrapped_datetime_by (Coarser factor) ticks = FloorBy ticks factor

-- a length of time in another unit, as `duration_by` but wrapped
abbrev pub wrapped_duration_by : UnitChange → Formula → Formula
wrapped_duration_by (Finer factor) ticks = wrapped_in_finer_unit factor ticks
wrapped_duration_by Same ticks = ticks
wrapped_duration_by (Coarser factor) ticks = TruncBy ticks factor
