-- The names of units, and how they stand to each other.
use Rattle.std.specs.Prelude.{ℕ, List, [], ◌∷◌, ◌++◌, codes, ◌/◌, nat_lt, if◌then◌else◌}
use Rattle.col_types.specs.declared.time_unit.TimeUnit.{TimeUnit}
use Rattle.col_types.specs.declared.time_unit.TimeUnit.TheVariants.{Nanoseconds, Microseconds}
use Rattle.col_types.specs.declared.time_unit.TimeUnit.TheVariants.{Milliseconds}
use Rattle.col_types.specs.declared.time_unit.ArrowTimeUnit.{ArrowTimeUnit}
use Rattle.col_types.specs.declared.time_unit.ArrowTimeUnit.TheVariants as arrow

-- All units, from the finest on.
abbrev pub all_units : List TimeUnit
all_units = Nanoseconds ∷ (Microseconds ∷ (Milliseconds ∷ []))

-- The name in ASCII, as bytes.
abbrev pub unit_name : TimeUnit → List ℕ
unit_name Nanoseconds = codes "ns"
unit_name Microseconds = codes "us"
unit_name Milliseconds = codes "ms"

-- How many nanoseconds a tick lasts. All that tells units apart stands here.
abbrev pub nanos_per_tick : TimeUnit → ℕ
nanos_per_tick Nanoseconds = 1
nanos_per_tick Microseconds = 1000
nanos_per_tick Milliseconds = 1000000

-- How many nanoseconds a day lasts.
abbrev pub nanos_per_day : ℕ
nanos_per_day = 86400000000000

-- How many ticks a day has.
abbrev pub ticks_per_day : TimeUnit → ℕ
ticks_per_day unit = nanos_per_day / nanos_per_tick unit

-- The unit of the two whose tick lasts longer.
abbrev pub coarser_unit : TimeUnit → TimeUnit → TimeUnit
coarser_unit u v = if nat_lt (nanos_per_tick u) (nanos_per_tick v) then v else u

-- The Greek letter mu, as the bytes of a text.
abbrev pub mu : List ℕ
mu = 0xCE ∷ 0xBC ∷ []

-- The name as it is printed, as bytes: the micro sign is the Greek letter.
abbrev pub unit_symbol : TimeUnit → List ℕ
unit_symbol Nanoseconds = codes "ns"
unit_symbol Microseconds = mu ++ codes "s"
unit_symbol Milliseconds = codes "ms"

-- The unit of that name that Arrow has.
abbrev pub to_arrow : TimeUnit → ArrowTimeUnit
to_arrow Nanoseconds = arrow.Nanosecond
to_arrow Microseconds = arrow.Microsecond
to_arrow Milliseconds = arrow.Millisecond

-- The unit for one that Arrow has: milliseconds for seconds too.
abbrev pub from_arrow : ArrowTimeUnit → TimeUnit
from_arrow arrow.Second = Milliseconds
from_arrow arrow.Millisecond = Milliseconds
from_arrow arrow.Microsecond = Microseconds
from_arrow arrow.Nanosecond = Nanoseconds
