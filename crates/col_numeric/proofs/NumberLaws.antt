-- Numbers that a word may have.
use Rattle.std.specs.Prelude.{◌≡◌, ℤ, Bool, true, false, Option, Some, None, Ok, Err, if◌then◌else◌}
use Rattle.std.proofs.Common.{refl, ap}
use Rattle.col_types.specs.declared.error.PolarsError.TheVariants as errors
use Rattle.col_model.specs.Arithmetic.{WordType, fitting_value, is_within, word_values}
use Rattle.col_model.specs.Words.{word_dtype}
use Rattle.col_model.specs.Chunked.{Chunked}
use Rattle.col_rule.specs.Columns.{mapped_chunks}
use Rattle.col_numeric.specs.Numbers.{after_number}

-- a number that the word has
pub number_in : (word : WordType) (f : ℤ → ℤ → Option ℤ) (x r : ℤ) (chunked : Chunked) → Some r ≡ fitting_value (word_values word) x
    → after_number word f x chunked ≡ Ok (mapped_chunks (f r) (word_dtype word) chunked)
number_in word f x r chunked e = by_test (is_within (word_values word) x) e
  where
    by_test : (b : Bool) → Some r ≡ (if b then Some x else None)
        → (if b then Ok (mapped_chunks (f x) (word_dtype word) chunked) else Err (errors.Scalar x)) ≡ Ok (mapped_chunks (f r) (word_dtype word) chunked)
    by_test true h = let is : x ≡ r = cc in ap (λ (k : ℤ). Ok (mapped_chunks (f k) (word_dtype word) chunked)) is
    by_test false h = absurd (cc)

-- a number that it doesn't have
pub number_out : (word : WordType) (f : ℤ → ℤ → Option ℤ) (x : ℤ) (chunked : Chunked) → None ≡ fitting_value (word_values word) x
    → after_number word f x chunked ≡ Err (errors.Scalar x)
number_out word f x chunked e = by_test (is_within (word_values word) x) e
  where
    by_test : (b : Bool) → None ≡ (if b then Some x else None)
        → (if b then Ok (mapped_chunks (f x) (word_dtype word) chunked) else Err (errors.Scalar x)) ≡ Err (errors.Scalar x)
    by_test true h = absurd (cc)
    by_test false h = refl

pub ruleset number_laws = (number_in, number_out)
