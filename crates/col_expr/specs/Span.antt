-- The span of a column's slots, as the code finds it.
use Rattle.std.specs.Prelude.{ℤ, Bool, true, Option, Some, None}
use Rattle.col_model.specs.Arithmetic.{Interval, is_inside}

-- from the least to the greatest integer, none where there is no integer
abbrev pub from_to : Option ℤ → Option ℤ → Option Interval
from_to (Some low) (Some high) = Some (record { low = low; high = high })
from_to _ _ = None

-- whether all between the ends of a span lies in the interval; where no slot is valid, none is
-- outside
abbrev pub is_span_within : Interval → Option Interval → Bool
is_span_within range None = true
is_span_within range (Some span) = is_inside range span
