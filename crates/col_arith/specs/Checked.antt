-- Divisions rounded towards zero, null where the type hasn't the quotient.
use Rattle.std.specs.Prelude.{ℕ, ℤ, Bool, false, ◌&&◌, ◌||◌, length, nat_eq, Option, Some, None}
use Rattle.std.specs.Prelude.{Result, if◌then◌else◌}
use Rattle.std.specs.Option.{option_and_then, option_map, ok_or}
use Rattle.col_types.specs.DataType.{is_integer, is_temporal}
use Rattle.col_types.specs.Supertype.{supertype_of}
use Rattle.col_types.specs.declared.data_type.DataType.{DataType, Int128}
use Rattle.col_types.specs.declared.operator.OpName.TheVariants.{CheckedDiv}
use Rattle.col_types.specs.declared.error.PolarsError.{PolarsError}
use Rattle.col_model.specs.Arithmetic.{WordType, word_values}
use Rattle.col_model.specs.Column.{Column, physical_word}
use Rattle.col_model.specs.Formula.{Formula, X, Y, Constant, Fit, TruncDiv}
use Rattle.col_model.specs.OperationNames.{unsupported}
use Rattle.col_model.specs.OperatorCalls.{binary_by, scalar_by}
use Rattle.col_model.specs.OperatorTable.{OperatorRule}
use Rattle.col_model.specs.ScalarTable.{bounded}

-- ---- two columns

-- the quotient of two integers, where the word holds it
abbrev pub checked_quotient : WordType → Formula
checked_quotient word = Fit (word_values word) (TruncDiv X Y)

-- the rule for two types, or none: both are integers, and have a supertype
abbrev pub checked_rule : DataType → DataType → Option OperatorRule
checked_rule left right =
    if is_integer left && is_integer right
    then option_and_then (λ dtype. option_map (λ word. record {
      dtype = dtype;
      formula = checked_quotient word;
    }) (physical_word dtype)) (supertype_of left right)
    else None

-- the number of rows of two columns that have as many
abbrev pub equal_length : ℕ → ℕ → Option ℕ
equal_length left right = if nat_eq left right then Some left else None

-- two columns of one length divided, or why they are not; lengths are tested before types
abbrev pub checked_of : Column → Column → Result Column PolarsError
checked_of left right =
    binary_by left right (equal_length (length left.slots) (length right.slots))
    (ok_or (checked_rule left.dtype right.dtype) (unsupported CheckedDiv left.dtype right.dtype))

-- ---- a column and an integer

-- a column's value divided by an integer, where the word holds the quotient
abbrev pub checked_form : ℤ → WordType → Formula
checked_form k word = Fit (word_values word) (TruncDiv X (Constant k))

-- whether a column of the type can be so divided: integers up to 64 bits, and temporal types
abbrev pub is_checked_type : DataType → Bool
is_checked_type Int128 = false
is_checked_type dtype = is_integer dtype || is_temporal dtype

-- the rule for a type and an integer, or none: a time outside the day is null
abbrev pub checked_num_rule : DataType → ℤ → Option OperatorRule
checked_num_rule dtype k =
    if is_checked_type dtype
    then option_map (λ word. record { dtype = dtype; formula = bounded dtype (checked_form k word) })
    (physical_word dtype)
    else None

-- a column divided by an integer, or why it is not; types are tested before the integer
abbrev pub checked_num_of : Column → ℤ → Result Column PolarsError
checked_num_of column k = scalar_by CheckedDiv k column (checked_num_rule column.dtype k)
