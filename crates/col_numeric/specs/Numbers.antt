-- Columns and one number that need not be in their word.
use Rattle.std.specs.Prelude.{ℤ, Option, Result, Ok, Err, if◌then◌else◌}
use Rattle.col_types.specs.declared.error.PolarsError.{PolarsError}
use Rattle.col_types.specs.declared.error.PolarsError.TheVariants as errors
use Rattle.col_model.specs.Arithmetic.{WordType, is_within, word_values}
use Rattle.col_model.specs.Words.{word_dtype}
use Rattle.col_model.specs.Chunked.{Chunked}
use Rattle.col_rule.specs.Columns.{mapped_chunks}

-- a function of the number and of each slot, or that the number isn't in the word
abbrev pub after_number : WordType → (ℤ → ℤ → Option ℤ) → ℤ → Chunked → Result Chunked PolarsError
after_number word f x chunked =
    if is_within (word_values word) x then Ok (mapped_chunks (f x) (word_dtype word) chunked)
    else Err (errors.Scalar x)
