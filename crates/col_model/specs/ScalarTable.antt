-- The scalar forms, which meet a column with one integer, and the changes of a column's unit.
use Rattle.std.specs.Prelude.{ℤ, Bool, false, ◌||◌, Option, Some, None, if◌then◌else◌}
use Rattle.std.specs.Option.{option_map, option_and_then}
use Rattle.col_types.specs.DataType.{is_integer, is_temporal}
use Rattle.col_types.specs.declared.data_type.DataType.{DataType, Int128, Datetime, Duration, Time}
use Rattle.col_types.specs.declared.data_type.DataType.{Decimal}
use Rattle.col_types.specs.declared.time_unit.TimeUnit.{TimeUnit}
use Rattle.col_types.specs.declared.operator.BinOp.{BinOp}
use Rattle.col_types.specs.declared.operator.BinOp.TheVariants as ops
use Rattle.col_types.specs.declared.operator.ScalarOp.{ScalarOp}
use Rattle.col_types.specs.declared.operator.ScalarOp.TheVariants as scalar_ops
use Rattle.col_model.specs.Arithmetic.{WordType, is_within, word_values}
use Rattle.col_model.specs.Column.{physical_word, day_values}
use Rattle.col_model.specs.Formula.{Formula, X, Constant, Sum, Difference, Product, FloorDiv}
use Rattle.col_model.specs.Formula.{TruncDiv, FloorMod, Fit, Wrap}
use Rattle.col_model.specs.UnitChange.{unit_change, wrapped_datetime_by, wrapped_duration_by}
use Rattle.col_model.specs.OperatorTable.{OperatorRule, giving}

-- a column's value joined with an integer on its right
abbrev pub right_form : ScalarOp → ℤ → WordType → Formula
right_form scalar_ops.Add k word = Wrap word (Sum X (Constant k))
right_form scalar_ops.Sub k word = Wrap word (Difference X (Constant k))
right_form scalar_ops.Mul k word = Wrap word (Product X (Constant k))
right_form scalar_ops.Div k word = Wrap word (FloorDiv X (Constant k))
right_form scalar_ops.Rem k word = FloorMod X (Constant k)
right_form scalar_ops.TruncDiv k word = Wrap word (TruncDiv X (Constant k))

-- an integer joined with a column's value on its right
abbrev pub left_form : ℤ → BinOp → WordType → Formula
left_form k ops.Add word = Wrap word (Sum (Constant k) X)
left_form k ops.Sub word = Wrap word (Difference (Constant k) X)
left_form k ops.Mul word = Wrap word (Product (Constant k) X)
left_form k ops.Div word = Wrap word (FloorDiv (Constant k) X)
left_form k ops.Rem word = FloorMod (Constant k) X

-- a time outside the day is null; other types have no bound but their word
abbrev pub bounded : DataType → Formula → Formula
bounded Time value = Fit day_values value
bounded _ value = value

-- the type of the answer, none for a type that meets no integer: an integer or temporal type is
-- kept, and an unscaled decimal answers as the integer that it is
abbrev pub scalar_dtype : DataType → Option DataType
scalar_dtype (Decimal precision scale) = Some Int128
scalar_dtype dtype = if is_integer dtype || is_temporal dtype then Some dtype else None

-- the rule of a form in the word of the type
abbrev pub scalar_rule : DataType → (WordType → Formula) → Option OperatorRule
scalar_rule dtype form =
    option_and_then (λ answer. option_map
    (λ word. record { dtype = answer; formula = bounded dtype (form word) }) (physical_word dtype))
    (scalar_dtype dtype)

-- the rule for a column with an integer on its right, or none
abbrev pub scalar_right_rule : DataType → ScalarOp → ℤ → Option OperatorRule
scalar_right_rule dtype op k = scalar_rule dtype (right_form op k)

-- the rule for an integer with a column on its right, or none
abbrev pub scalar_left_rule : ℤ → BinOp → DataType → Option OperatorRule
scalar_left_rule k op dtype = scalar_rule dtype (left_form k op)

-- whether there is a word, and it has the integer
abbrev pub is_scalar_in : Option WordType → ℤ → Bool
is_scalar_in None k = false
is_scalar_in (Some word) k = is_within (word_values word) k

-- whether a column of the type can meet the integer: the word of the type has it
abbrev pub is_scalar_of : DataType → ℤ → Bool
is_scalar_of dtype k = is_scalar_in (physical_word dtype) k

-- the rule for a change to the unit, or none
abbrev pub unit_change_rule : DataType → TimeUnit → Option OperatorRule
unit_change_rule (Datetime from y) to =
    giving (Datetime to y) (wrapped_datetime_by (unit_change from to) X)
unit_change_rule (Duration from) to =
    giving (Duration to) (wrapped_duration_by (unit_change from to) X)
unit_change_rule _ to = None
