-- What divisions and wrapped words mean, and that a formula's interval holds its exact value.
use Rattle.std.specs.Prelude.{◌≡◌, ◌≢◌, ◌+ℤ◌, ◌*ℤ◌, ◌≤ℤ◌, ◌<ℤ◌, ◌^◌, ℕ, ℤ, pos, negsuc, neg_ℤ, true}
use Rattle.std.specs.Prelude.{Some}
use Rattle.col_model.specs.Arithmetic.{Interval, is_within, WordType, word_bits, word_values}
use Rattle.col_model.specs.Arithmetic.{floor_by, trunc_by, floor_div, trunc_div}
use Rattle.col_model.specs.Arithmetic.{floor_mod}
use Rattle.col_model.specs.Formula.{Formula, value_of, exact_value_of, interval_of}

-- ---- divisions

-- a multiple of the divisor doesn't pass x, seen in the divisor's direction
abbrev pub DoesNotPass : (divisor multiple x : ℤ) → Type 0
DoesNotPass (pos k) multiple x = multiple ≤ℤ x
DoesNotPass (negsuc k) multiple x = x ≤ℤ multiple

-- the greatest integer whose multiple by the divisor doesn't pass x
pub record IsFloorQuotient (x divisor quotient : ℤ) : Type 0 where
  pub not_past : DoesNotPass divisor (quotient *ℤ divisor) x
  pub greatest : (other : ℤ) → DoesNotPass divisor (other *ℤ divisor) x → other ≤ℤ quotient

-- from 0 on, short of the divisor, on its side of 0
abbrev pub IsShortOf : (divisor rest : ℤ) → Type 0
IsShortOf (pos k) rest = (pos 0 ≤ℤ rest) × (rest <ℤ pos k)
IsShortOf (negsuc k) rest = (negsuc k <ℤ rest) × (rest ≤ℤ pos 0)

-- the quotient rounded down is that integer, and the rest is what it leaves
pub record DividesDown (x divisor : ℤ) : Type 0 where
  pub quotient : IsFloorQuotient x divisor (floor_div x divisor)
  pub rest : IsShortOf divisor (floor_mod x divisor)
  pub whole : (floor_div x divisor *ℤ divisor) +ℤ floor_mod x divisor ≡ x

-- every division by what isn't 0 is such a one
abbrev pub DivisionsRoundDown : Type 0
DivisionsRoundDown = (x divisor : ℤ) → divisor ≢ pos 0 → DividesDown x divisor

-- the quotient rounded towards zero is that rounded down where both sides are above zero, and turns
-- its sign with either
pub record TruncatesDivisions : Type 0 where
  pub above_zero : (n k : ℕ) → trunc_div (pos n) (pos k) ≡ floor_div (pos n) (pos k)
  pub left_sign : (x y : ℤ) → trunc_div (neg_ℤ x) y ≡ neg_ℤ (trunc_div x y)
  pub right_sign : (x y : ℤ) → trunc_div x (neg_ℤ y) ≡ neg_ℤ (trunc_div x y)

-- the quotients by a positive number are those by an integer
pub record DividesByPositive (x : ℤ) (k : ℕ) : Type 0 where
  pub down : floor_by x k ≡ floor_div x (pos k)
  pub towards_zero : trunc_by x k ≡ trunc_div x (pos k)

-- ---- words

-- what a word keeps of x: an integer of the word that differs from x by a multiple of 2 to its
-- width
pub record IsKeptOf (word : WordType) (x kept : ℤ) : Type 0 where
  pub in_word : is_within (word_values word) kept ≡ true
  pub multiple : ℤ
  pub congruent : kept +ℤ (multiple *ℤ pos (2 ^ word_bits word)) ≡ x

-- ---- intervals

-- the formula's value is there, is the exact one, and lies in the interval
pub record IsExactIn (range : Interval) (formula : Formula) (x y : ℤ) : Type 0 where
  pub value : ℤ
  pub valid : value_of formula x y ≡ Some value
  pub exact : exact_value_of formula x y ≡ Some value
  pub within : is_within range value ≡ true

-- where two integers lie in intervals for which a formula has one, its value is exact and lies in
-- it
abbrev pub IntervalsHold : Type 0
IntervalsHold =
    (formula : Formula) (a b range : Interval) (x y : ℤ) → is_within a x ≡ true →
    is_within b y ≡ true → interval_of formula a b ≡ Some range → IsExactIn range formula x y
