-- How far from 0 the ends of intervals are, so that what is computed of them has room in 128 bits.
use Rattle.std.specs.Prelude.{◌^◌, ◌≤◌, ℕ, ℤ, ◌*ℤ◌, ◌≤ℤ◌, unsigned_abs, FitsSigned}
use Rattle.std.specs.Int.{w128}
use Rattle.col_model.specs.Arithmetic.{Interval}

-- one integer alone
abbrev pub only : ℤ → Interval
only k = record { low = k; high = k }

-- the low end isn't above the high one
abbrev pub IsOrdered : Interval → Type 0
IsOrdered range = range.low ≤ℤ range.high

-- both ends are at most 2 to the bits away from 0
pub record IsNear (bits : ℕ) (range : Interval) : Type 0 where
  pub low : unsigned_abs range.low ≤ 2 ^ bits
  pub high : unsigned_abs range.high ≤ 2 ^ bits

-- the products of the ends have room in 128 bits
pub record Multiply (p q : Interval) : Type 0 where
  pub lows : FitsSigned w128 (p.low *ℤ q.low)
  pub low_high : FitsSigned w128 (p.low *ℤ q.high)
  pub high_low : FitsSigned w128 (p.high *ℤ q.low)
  pub highs : FitsSigned w128 (p.high *ℤ q.high)
