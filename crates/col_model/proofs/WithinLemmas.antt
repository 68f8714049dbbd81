-- Integers that lie in an interval, by its two ends.
use Rattle.std.proofs.Common.{◌≡◌, ℤ, ◌≤ℤ◌, true, arith}
use Rattle.std.specs.Prelude.{int_le}
use Rattle.std.proofs.lemmas.Bool.{and_from, and_parts}
use Rattle.std.proofs.lemmas.Int.{ints}
use Rattle.col_model.specs.Arithmetic.{Interval, is_within}

-- an integer of an interval
pub record IsWithin (range : Interval) (x : ℤ) : Type 0 where
  pub low : range.low ≤ℤ x
  pub high : x ≤ℤ range.high

pub le_true : (a b : ℤ) → a ≤ℤ b → int_le a b ≡ true
le_true a b h = grind (arith, ints)

pub true_le : (a b : ℤ) → int_le a b ≡ true → a ≤ℤ b
true_le a b h = grind (arith, ints)

-- the test from the two ends, and back
pub is_within-true : (range : Interval) (x : ℤ) → IsWithin range x → is_within range x ≡ true
is_within-true range x w = and_from _ _ (le_true _ _ w.low) (le_true _ _ w.high)

pub within_from : (range : Interval) (x : ℤ) → is_within range x ≡ true → IsWithin range x
within_from range x h =
    let parts = and_parts (int_le range.low x) (int_le x range.high) h in
    record { low = true_le _ _ parts.0; high = true_le _ _ parts.1 }

pub trans : (a b c : ℤ) → a ≤ℤ b → b ≤ℤ c → a ≤ℤ c
trans a b c h k = omega (arith, ints)

-- what lies between two numbers of an interval lies in it
pub inside_from : (range p : Interval) (x : ℤ) → is_within range p.low ≡ true
    → is_within range p.high ≡ true → IsWithin p x → IsWithin range x
inside_from range p x low high w =
    let l = within_from range p.low low in
    let h = within_from range p.high high in
    record { low = trans _ _ _ l.low w.low; high = trans _ _ _ w.high h.high }
