-- The scalar forms as the code keeps them.
use Rattle.std.specs.Prelude.{◌≡◌, ℤ, true, Some, Result, Ok, Err, if◌then◌else◌}
use Rattle.std.specs.Int.{w32, w64}
use Rattle.col_types.specs.declared.data_type.DataType.{DataType}
use Rattle.col_types.specs.declared.error.PolarsError.{PolarsError}
use Rattle.col_types.specs.declared.error.PolarsError.TheVariants as errors
use Rattle.col_model.specs.Arithmetic.{Interval, WordType, Signed, is_within, word_values}
use Rattle.col_model.specs.Chunked.{Chunked}
use Rattle.col_model.specs.Column.{Column, day_values, values_of, physical_word}
use Rattle.col_model.specs.Formula.{Formula, Fit, value_of}
use Rattle.col_model.specs.ScalarTable.{right_form, left_form, bounded, scalar_dtype}
use Rattle.col_model.specs.OperatorCalls.{scalar_right_of, scalar_left_of}
use Rattle.col_model.specs.Words.{word_dtype}
use Rattle.col_rule.specs.Columns.{mapped_chunks}
use Rattle.col_arith.specs.Checked.{checked_form, checked_num_of, is_checked_type}
use Rattle.col_arith.specs.declared.scalars.ScalarForm.{ScalarForm}
use Rattle.col_arith.specs.declared.scalars.ScalarForm.TheVariants.{Right, Left, Checked}
use Rattle.col_arith.specs.declared.scalars.Ticks.{Ticks}
use Rattle.col_arith.specs.declared.scalars.Ticks.TheVariants.{Days, Times, Wide}

-- the formula of a form with an integer, in a word
abbrev pub form_of : ScalarForm → ℤ → WordType → Formula
form_of (Right op) k word = right_form op k word
form_of (Left op) k word = left_form k op word
form_of Checked k word = checked_form k word

-- what a column gives under a form with an integer
abbrev pub scalar_of : Column → ScalarForm → ℤ → Result Column PolarsError
scalar_of column (Right op) k = scalar_right_of column op k
scalar_of column (Left op) k = scalar_left_of k op column
scalar_of column Checked k = checked_num_of column k

-- words under a formula with an integer, or that the word doesn't hold it
abbrev pub scalar_words : WordType → Formula → ℤ → Chunked → Result Chunked PolarsError
scalar_words word formula k words =
    if is_within (word_values word) k
    then Ok (mapped_chunks (λ x. value_of formula x x) (word_dtype word) words)
    else Err (errors.Scalar k)

-- ---- ticks

-- the word of the ticks
abbrev pub word_of : Ticks → WordType
word_of Days = Signed w32
word_of Times = Signed w64
word_of Wide = Signed w64

-- what a formula gives in their values
abbrev pub bounded_by : Ticks → Formula → Formula
bounded_by Days value = value
bounded_by Times value = Fit day_values value
bounded_by Wide value = value

-- their values
abbrev pub values_in : Ticks → Interval
values_in Days = word_values (Signed w32)
values_in Times = day_values
values_in Wide = word_values (Signed w64)

-- what ticks have to do with a type, which is also that of the answer
pub record FitsType (dtype : DataType) (ticks : Ticks) : Type 0 where
  pub word : physical_word dtype ≡ Some (word_of ticks)
  pub values : values_of dtype ≡ Some (values_in ticks)
  pub bound : (formula : Formula) → bounded dtype formula ≡ bounded_by ticks formula
  pub answer : scalar_dtype dtype ≡ Some dtype
  pub checked : is_checked_type dtype ≡ true
