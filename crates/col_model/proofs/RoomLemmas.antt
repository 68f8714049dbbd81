-- What is computed of intervals has room in 128 bits.
use Rattle.std.proofs.Common.{◌≡◌, ◌+◌, ◌*◌, ◌^◌, ◌≤◌, ◌<◌, ℕ, ℤ, pos, ◌-ℤ◌, ◌*ℤ◌, ◌≤ℤ◌, false, refl, sym, ◌∙◌, arith}
use Rattle.std.specs.Prelude.{◌≢◌, unsigned_abs, FitsSigned, Bool, true, int_lt, if◌then◌else◌}
use Rattle.std.specs.Int.{w128}
use Rattle.std.proofs.lemmas.Int.{ints, fits_signed_mul, unsigned_abs-mul}
use native.Mathlib.Nat.{mul-le-mul}
use Rattle.std.proofs.lemmas.Nat.{pow-add, pow_below}
use Rattle.col_model.specs.Arithmetic.{Interval, is_within}
use Rattle.col_model.specs.IntervalRoom.{IsNear, IsOrdered, Multiply, only}
use Rattle.col_model.specs.Formula.{spanned, at_ends}
use Rattle.std.specs.Int.{int_min, int_max}
use Rattle.std.proofs.lemmas.Bool.{false≢true, and_from}
use Rattle.col_model.proofs.WithinLemmas.{le_true}

-- a product of what is so near
product_fits : (m n : ℕ) (a b : ℤ) → m + n < 127 → unsigned_abs a ≤ 2 ^ m → unsigned_abs b ≤ 2 ^ n →
    FitsSigned w128 (a *ℤ b)
product_fits m n a b h p q =
    let power : 2 ^ m * 2 ^ n < 2 ^ 127 = omega (arith, pow-add 2 m n, pow_below (m + n) 127 h) in
    fits_signed_mul w128 a b (2 ^ m) (2 ^ n) p q power

pub near_multiply : (m n : ℕ) (p q : Interval) → m + n < 127 → IsNear m p → IsNear n q → Multiply p q
near_multiply m n p q h u v = record {
  lows = product_fits m n p.low q.low h u.low v.low;
  low_high = product_fits m n p.low q.high h u.low v.high;
  high_low = product_fits m n p.high q.low h u.high v.low;
  highs = product_fits m n p.high q.high h u.high v.high;
}

-- the ends of an interval without 0
pub low_apart : (p : Interval) → is_within p (pos 0) ≡ false → IsOrdered p → p.low ≢ pos 0
low_apart p none h e =
    let high : pos 0 ≤ℤ p.high = omega (arith, ints) in
    let low : p.low ≤ℤ pos 0 = omega (arith, ints) in
    absurd (false≢true (sym none ∙ and_from _ _ (le_true p.low (pos 0) low) (le_true (pos 0) p.high high)))

pub high_apart : (p : Interval) → is_within p (pos 0) ≡ false → IsOrdered p → p.high ≢ pos 0
high_apart p none h e =
    let high : pos 0 ≤ℤ p.high = omega (arith, ints) in
    let low : p.low ≤ℤ pos 0 = omega (arith, ints) in
    absurd (false≢true (sym none ∙ and_from _ _ (le_true p.low (pos 0) low) (le_true (pos 0) p.high high)))

-- what is a natural number
only_near : (n k : ℕ) → k ≤ 2 ^ n → IsNear n (only (pos k))
only_near n k h = record { low = h; high = h }

pub times_multiply : (p : Interval) (k : ℕ) → IsNear 63 p → k ≤ 2 ^ 63 → Multiply p (only (pos k))
times_multiply p k near h = near_multiply 63 63 p (only (pos k)) (omega arith) near (only_near 63 k h)

-- a product of what is so near is so near
product_near : (a : ℤ) (k : ℕ) → unsigned_abs a ≤ 2 ^ 63 → k ≤ 2 ^ 63 → unsigned_abs (a *ℤ pos k) ≤ 2 ^ 126
product_near a k h g =
    let power : 2 ^ 63 * 2 ^ 63 ≡ 2 ^ 126 = refl in
    omega (arith, unsigned_abs-mul a (pos k), mul-le-mul h g)

min_near : (a b : ℤ) (n : ℕ) → unsigned_abs a ≤ n → unsigned_abs b ≤ n → unsigned_abs (int_min a b) ≤ n
min_near a b n h g = go (int_lt b a)
  where
    go : (less : Bool) → unsigned_abs (if less then b else a) ≤ n
    go true = g
    go false = h

max_near : (a b : ℤ) (n : ℕ) → unsigned_abs a ≤ n → unsigned_abs b ≤ n → unsigned_abs (int_max a b) ≤ n
max_near a b n h g = go (int_lt b a)
  where
    go : (less : Bool) → unsigned_abs (if less then a else b) ≤ n
    go true = h
    go false = g

pub times_near : (p : Interval) (k : ℕ) → IsNear 63 p → k ≤ 2 ^ 63 → IsNear 126 (at_ends ◌*ℤ◌ p (only (pos k)))
unfolding spanned
times_near p k near h =
    let a = p.low *ℤ pos k in
    let b = p.high *ℤ pos k in
    let n = 2 ^ 126 in
    let low : unsigned_abs a ≤ n = product_near p.low k near.low h in
    let high : unsigned_abs b ≤ n = product_near p.high k near.high h in
    record {
      low = min_near (int_min a a) (int_min b b) n (min_near a a n low low) (min_near b b n high high);
      high = max_near (int_max a a) (int_max b b) n (max_near a a n low low) (max_near b b n high high);
    }

-- differences, a whole day long
pub apart_multiply : (p q : Interval) (k : ℕ) → IsNear 63 p → IsNear 63 q → k ≤ 2 ^ 62 →
    Multiply (record { low = p.low -ℤ q.high; high = p.high -ℤ q.low }) (only (pos k))
apart_multiply p q k u v h =
    let near : IsNear 64 (record { low = p.low -ℤ q.high; high = p.high -ℤ q.low }) =
    record { low = apart_near p.low q.high u.low v.high; high = apart_near p.high q.low u.high v.low } in
    near_multiply 64 62 (record { low = p.low -ℤ q.high; high = p.high -ℤ q.low }) (only (pos k)) (omega arith) near
    (only_near 62 k h)
  where
    apart_near : (a b : ℤ) → unsigned_abs a ≤ 2 ^ 63 → unsigned_abs b ≤ 2 ^ 63 → unsigned_abs (a -ℤ b) ≤ 2 ^ 64
    apart_near a b h g = omega (arith, ints)

-- integers of 64 bits
pub scalar_multiply : (p q : Interval) → IsNear 63 p → IsNear 63 q → Multiply p q
scalar_multiply p q u v = near_multiply 63 63 p q (omega arith) u v
