-- Values at the ends of words and of scales that were worked out by hand.
use Rattle.std.specs.Prelude.{◌≡◌, ◌-◌, ◌^◌, ℕ, ℤ, pos, negsuc, neg_ℤ, List, [], ◌∷◌}
use Rattle.std.specs.Prelude.{Option, Some, None}
use Rattle.std.specs.Int.{w8, w16, w32, w64, w128}
use Rattle.col_model.specs.Arithmetic.{Interval, WordType, Signed, Unsigned, word_values}
use Rattle.col_model.specs.Formula.{X, Y, Sum, Difference, Product, FloorDiv, TruncDiv}
use Rattle.col_model.specs.Formula.{FloorMod, Fit, Wrap, value_of}

-- ---- words

-- the least and the greatest integer of each word
abbrev pub known_ranges : List (WordType × Interval)
known_ranges =
    (Signed w8, record { low = negsuc 127; high = pos 127 }) ∷
    (Signed w16, record { low = negsuc 32767; high = pos 32767 }) ∷
    (Signed w32, record { low = negsuc 2147483647; high = pos 2147483647 }) ∷
    (Signed w64, record { low = negsuc 9223372036854775807; high = pos 9223372036854775807 }) ∷
    (Unsigned w8, record { low = pos 0; high = pos 255 }) ∷
    (Unsigned w16, record { low = pos 0; high = pos 65535 }) ∷
    (Unsigned w32, record { low = pos 0; high = pos 4294967295 }) ∷
    (Unsigned w64, record { low = pos 0; high = pos 18446744073709551615 }) ∷ []

-- one past either end of a word is the other end, and nothing is divided by 0
pub record WrapsAtEnds (word : WordType) : Type 0 where
  pub above : value_of (Wrap word (Sum X Y)) (word_values word).high (pos 1)
      ≡ Some (word_values word).low
  pub below : value_of (Wrap word (Difference X Y)) (word_values word).low (pos 1)
      ≡ Some (word_values word).high
  pub no_floor : value_of (Wrap word (FloorDiv X Y)) (word_values word).low (pos 0) ≡ None
  pub no_rest : value_of (Wrap word (FloorMod X Y)) (word_values word).high (pos 0) ≡ None

-- the least integer of a signed word has no negative there: it wraps to itself, or is null
pub record TurnsLeast (word : WordType) : Type 0 where
  pub product : value_of (Wrap word (Product X Y)) (word_values word).low (negsuc 0)
      ≡ Some (word_values word).low
  pub floor : value_of (Wrap word (FloorDiv X Y)) (word_values word).low (negsuc 0)
      ≡ Some (word_values word).low
  pub trunc : value_of (Wrap word (TruncDiv X Y)) (word_values word).low (negsuc 0)
      ≡ Some (word_values word).low
  pub rest : value_of (Wrap word (FloorMod X Y)) (word_values word).low (negsuc 0) ≡ Some (pos 0)
  pub no_product :
      value_of (Fit (word_values word) (Product X Y)) (word_values word).low (negsuc 0) ≡ None
  pub no_quotient :
      value_of (Fit (word_values word) (TruncDiv X Y)) (word_values word).low (negsuc 0) ≡ None

-- the words that differ most, at their ends
pub record KnownEnds : Type 0 where
  pub byte : WrapsAtEnds (Unsigned w8)
  pub long : WrapsAtEnds (Unsigned w64)
  pub signed_byte : WrapsAtEnds (Signed w8)
  pub longest : WrapsAtEnds (Signed w128)
  pub least_byte : TurnsLeast (Signed w8)
  pub least_longest : TurnsLeast (Signed w128)

-- ---- decimals

-- an unscaled decimal, its scale, the other scale and the precision
abbrev Rescaling : Type 0
Rescaling = ℤ × ℕ × ℕ × Option ℕ

-- the greatest decimal of 38 digits
abbrev most : ℕ
most = 10 ^ 38 - 1

-- the greatest integer of 128 bits
abbrev greatest : ℕ
greatest = 2 ^ 127 - 1

-- what becomes of decimals at other scales
abbrev pub known_rescalings : List (Rescaling × Option ℤ)
known_rescalings =
    ((pos 110, 2, 4, Some 5), Some (pos 11000)) ∷
    ((pos 110, 2, 4, Some 4), None) ∷
    ((neg_ℤ (pos 1259), 3, 1, None), Some (neg_ℤ (pos 12))) ∷
    ((pos 7, 0, 0, Some 1), Some (pos 7)) ∷
    ((pos 10, 0, 0, Some 1), None) ∷
    ((pos 1, 0, 38, None), None) ∷
    ((pos 0, 0, 38, None), Some (pos 0)) ∷
    ((pos most, 0, 0, None), Some (pos most)) ∷
    ((pos most, 0, 1, None), None) ∷
    ((pos most, 38, 0, None), Some (pos 0)) ∷
    ((pos greatest, 0, 0, None), None) ∷
    ((pos greatest, 1, 0, Some 38), Some (pos 17014118346046923173168730371588410572)) ∷
    ((pos greatest, 1, 0, Some 37), None) ∷
    ((pos greatest, 38, 0, Some 1), Some (pos 1)) ∷
    ((negsuc greatest, 0, 38, None), None) ∷
    ((negsuc greatest, 38, 0, Some 1), Some (negsuc 0)) ∷
    ((negsuc greatest, 38, 0, Some 0), None) ∷ []
