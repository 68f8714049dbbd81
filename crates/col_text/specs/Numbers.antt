-- Numbers and integers in decimal digits.
use Rattle.std.specs.Prelude.{ℕ, ◌^◌, Bool, ◌&&◌, ◌||◌, List, get_or, ℤ, pos, negsuc, neg_ℤ}
use Rattle.std.specs.Prelude.{Option, Some, None, option_and_then, option_map, nat_lt, nat_eq}
use Rattle.std.specs.Prelude.{length, drop, if◌then◌else◌}
use Rattle.std.specs.Int.{w64, w128}
use Rattle.std.specs.Str.{all_ascii_digits}
use Rattle.std.specs.Str.Parse.{digits_value, starts_with_minus, without_leading_plus}
use Rattle.col_types.specs.Zones.{plus}
use Rattle.col_model.specs.Arithmetic.{Signed, word_values, fitting_value}

-- the value of one digit or more
abbrev pub natural_of : List ℕ → Option ℕ
natural_of digits =
    if nat_lt 0 (length digits) && all_ascii_digits digits
    then Some (digits_value 10 digits) else None

-- a natural number, where 32 bits hold it
abbrev pub small_number : ℕ → Option ℕ
small_number n = if nat_lt n (2 ^ 32) then Some n else None

-- a number: digits without a sign, below 2^32
abbrev pub number_of : List ℕ → Option ℕ
number_of text = option_and_then small_number (natural_of text)

-- whether a text begins with a sign
abbrev pub starts_with_sign : List ℕ → Bool
starts_with_sign text = starts_with_minus text || nat_eq (get_or text 0 0) plus

-- the number that an integer is, where 32 bits hold it
abbrev pub small_integer : ℤ → Option ℕ
small_integer (pos n) = small_number n
small_integer (negsuc n) = None

-- digits with a sign or none
abbrev pub signed_of : List ℕ → Option ℤ
signed_of text =
    if starts_with_minus text then option_map (λ n. neg_ℤ (pos n)) (natural_of (drop 1 text))
    else option_map pos (natural_of (without_leading_plus text))

-- an integer: digits with a sign or none, from -2^127 to 2^127 - 1
abbrev pub integer_of : List ℕ → Option ℤ
integer_of text = option_and_then (fitting_value (word_values (Signed w128))) (signed_of text)

-- the integer, where 64 bits hold it
abbrev pub tick_fit : ℤ → Option ℤ
tick_fit x = fitting_value (word_values (Signed w64)) x

-- an integer that 64 bits hold
abbrev pub tick_of : List ℕ → Option ℤ
tick_of text = option_and_then tick_fit (integer_of text)

-- what stands behind the sign, if there is one
abbrev pub behind_sign : List ℕ → List ℕ
behind_sign text = if starts_with_minus text then drop 1 text else without_leading_plus text

-- the number, or its negative
abbrev pub with_sign : Bool → ℕ → ℤ
with_sign minus n = if minus then neg_ℤ (pos n) else pos n
