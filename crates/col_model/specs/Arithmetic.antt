-- Arithmetic on integers without bound, and what a word of fixed width keeps of it.
use Rattle.std.specs.Prelude.{zero, suc, ◌^◌, ◌-◌, ◌/◌, ◌-ℤ◌, ◌*ℤ◌, ℕ, ℤ, pos, negsuc, neg_ℤ, Bool}
use Rattle.std.specs.Prelude.{◌&&◌, Option, Some, None, int_div, int_le, nat_lt, unwrap_or}
use Rattle.std.specs.Prelude.{if◌then◌else◌}
use Rattle.std.specs.Int.{Width}
use Rattle.num_traits.specs.Laws.{bit_len, wrap_signed, wrap_unsigned}
use Rattle.col_types.specs.DataType.{max_digits}

-- ---- intervals and words

-- the integers from low to high
pub record Interval : Type 0 where
  pub low : ℤ
  pub high : ℤ

-- whether an integer lies in the interval
abbrev pub is_within : Interval → ℤ → Bool
is_within range x = int_le range.low x && int_le x range.high

-- whether both ends of an interval lie in another
abbrev pub is_inside : Interval → Interval → Bool
is_inside range inner = is_within range inner.low && is_within range inner.high

-- a word: signed or unsigned, and its width in bits
pub data WordType : Type 0 where
  Signed : Width → WordType
  Unsigned : Width → WordType

-- how many bits the word has
abbrev pub word_bits : WordType → ℕ
word_bits (Signed w) = bit_len w
word_bits (Unsigned w) = bit_len w

-- the integers that the word holds
abbrev pub word_values : WordType → Interval
word_values (Signed w) =
    record { low = neg_ℤ (pos (2 ^ (bit_len w - 1))); high = pos (2 ^ (bit_len w - 1) - 1) }
word_values (Unsigned w) = record { low = pos 0; high = pos (2 ^ bit_len w - 1) }

-- the integer, or null where the interval doesn't have it
abbrev pub fitting_value : Interval → ℤ → Option ℤ
fitting_value range x = if is_within range x then Some x else None

-- the integer that the word holds and that differs from x by a multiple of 2 to the word's width
unfoldable pub wrapped_value : WordType → ℤ → ℤ
wrapped_value (Signed w) x = wrap_signed w x
wrapped_value (Unsigned w) x = wrap_unsigned (bit_len w) x

-- ---- division

-- the quotient by a positive number, rounded down
abbrev pub floor_by : ℤ → ℕ → ℤ
floor_by (pos n) k = pos (n / k)
floor_by (negsuc n) k = negsuc (n / k)

-- the quotient by a positive number, rounded towards zero
abbrev pub trunc_by : ℤ → ℕ → ℤ
trunc_by (pos n) k = pos (n / k)
trunc_by (negsuc n) k = neg_ℤ (pos (suc n / k))

-- the quotient rounded down; nothing is said of a divisor 0
abbrev pub floor_div : ℤ → ℤ → ℤ
floor_div x (pos b) = floor_by x b
floor_div x (negsuc b) = floor_by (neg_ℤ x) (suc b)

-- the quotient rounded towards zero; nothing is said of a divisor 0
abbrev pub trunc_div : ℤ → ℤ → ℤ
trunc_div x y = int_div x y

-- what the quotient rounded down leaves; it has the divisor's sign
abbrev pub floor_mod : ℤ → ℤ → ℤ
floor_mod x y = x -ℤ (y *ℤ floor_div x y)

-- null for a divisor 0
abbrev pub unless_zero : ℤ → ℤ → Option ℤ
unless_zero (pos zero) x = None
unless_zero (pos (suc n)) x = Some x
unless_zero (negsuc n) x = Some x

-- ---- decimals

-- the integers of at most so many digits; a missing precision stands for the greatest
abbrev pub decimal_values : Option ℕ → Interval
decimal_values precision =
    let most = 10 ^ unwrap_or precision max_digits - 1 in
    record { low = neg_ℤ (pos most); high = pos most }

-- the integer, or null where it has more digits than the precision allows
abbrev pub fitting_decimal : Option ℕ → ℤ → Option ℤ
fitting_decimal precision x = fitting_value (decimal_values precision) x

-- an unscaled decimal at another scale, rounded towards zero
abbrev pub scaled_value : ℕ → ℕ → ℤ → ℤ
scaled_value from to x =
    if nat_lt from to then x *ℤ pos (10 ^ (to - from)) else trunc_by x (10 ^ (from - to))

-- that, or null where the precision doesn't allow it
abbrev pub rescaled_value : ℕ → ℕ → Option ℕ → ℤ → Option ℤ
rescaled_value from to precision x = fitting_decimal precision (scaled_value from to x)
