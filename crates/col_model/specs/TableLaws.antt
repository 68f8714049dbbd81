-- Laws of the tables: the type that stores a type, the settled target, the same type first; and
-- values of the scalar table and of changes of unit that are known by hand.
use Rattle.std.specs.Prelude.{◌≡◌, ℤ, pos, negsuc, true, false, List, [], ◌∷◌, codes}
use Rattle.std.specs.Prelude.{Option, Some, None, is_some}
use Rattle.std.specs.Option.{option_map}
use Rattle.std.specs.Int.{w8, w16, w32, w64, w128}
use Rattle.col_types.specs.DataType.{is_integer, physical_leaf, same_type}
use Rattle.col_types.specs.declared.time_unit.TimeUnit.{TimeUnit}
use Rattle.col_types.specs.declared.time_unit.TimeUnit.TheVariants.{Nanoseconds, Microseconds}
use Rattle.col_types.specs.declared.time_unit.TimeUnit.TheVariants.{Milliseconds}
use Rattle.col_types.specs.declared.data_type.DataType.{DataType, Int8, Int16, Int32, Int64}
use Rattle.col_types.specs.declared.data_type.DataType.{Int128, UInt8, UInt16, UInt32, UInt64}
use Rattle.col_types.specs.declared.data_type.DataType.{Boolean, String, Binary, Date, Datetime}
use Rattle.col_types.specs.declared.data_type.DataType.{Duration, Time, Decimal}
use Rattle.col_types.specs.declared.cast_options.CastOptions.{CastOptions}
use Rattle.col_types.specs.declared.operator.BinOp.{BinOp}
use Rattle.col_types.specs.declared.operator.BinOp.TheVariants as ops
use Rattle.col_types.specs.declared.operator.ScalarOp.{ScalarOp}
use Rattle.col_types.specs.declared.operator.ScalarOp.TheVariants.{Add, Sub, Div, Rem, TruncDiv}
use Rattle.col_model.specs.Value.{whole}
use Rattle.col_model.specs.Arithmetic.{WordType, Signed, Unsigned, word_values}
use Rattle.col_model.specs.Formula.{X}
use Rattle.col_model.specs.Column.{physical_word, values_of, is_value_in}
use Rattle.col_model.specs.CastTable.{cast_rule, pair_rule, rising, resolved_target}
use Rattle.col_model.specs.OperatorTable.{OperatorRule}
use Rattle.col_model.specs.ScalarTable.{scalar_dtype, scalar_right_rule, scalar_left_rule}
use Rattle.col_model.specs.ScalarTable.{is_scalar_of, unit_change_rule}
use Rattle.col_model.specs.Laws.{value_at}

-- ---- words

-- the words of some types
abbrev pub known_words : List (DataType × Option WordType)
known_words =
    (Int8, Some (Signed w8)) ∷
    (Int16, Some (Signed w16)) ∷
    (Int32, Some (Signed w32)) ∷
    (Int64, Some (Signed w64)) ∷
    (Int128, Some (Signed w128)) ∷
    (UInt8, Some (Unsigned w8)) ∷
    (UInt16, Some (Unsigned w16)) ∷
    (UInt32, Some (Unsigned w32)) ∷
    (UInt64, Some (Unsigned w64)) ∷
    (Date, Some (Signed w32)) ∷
    (Datetime Milliseconds None, Some (Signed w64)) ∷
    (Duration Microseconds, Some (Signed w64)) ∷
    (Time, Some (Signed w64)) ∷
    (Decimal (Some 5) (Some 2), Some (Signed w128)) ∷
    (Boolean, None) ∷
    (String, None) ∷
    (Binary, None) ∷ []

-- a type has a word exactly where an integer type stores it, and that word holds all of its values
pub record StoresValues (dtype : DataType) : Type 0 where
  pub word : is_some (physical_word dtype) ≡ is_integer (physical_leaf dtype)
  pub room : (x : ℤ) → is_some (physical_word dtype) ≡ true →
      is_value_in (values_of dtype) (whole x) ≡ true →
      is_value_in (option_map word_values (physical_word dtype)) (whole x) ≡ true

-- ---- casts

-- the same type keeps each slot, whatever the pair's rule is, and other types go by it
pub record SameTypeFirst (from target : DataType) (options : CastOptions) : Type 0 where
  pub same : same_type from target ≡ true → cast_rule from target options ≡ rising X
  pub other :
      same_type from target ≡ false → cast_rule from target options ≡ pair_rule from target options

-- a target that was settled leaves nothing to settle
abbrev pub SettlesOnce : DataType → DataType → Type 0
SettlesOnce from target =
    resolved_target from (resolved_target from target) ≡ resolved_target from target

-- two types, and the target that the second one is for the first
abbrev pub known_targets : List ((DataType × DataType) × DataType)
known_targets =
    ((Decimal (Some 5) (Some 2), Decimal None None), Decimal (Some 5) (Some 2)) ∷
    ((Decimal (Some 5) (Some 2), Decimal (Some 9) None), Decimal (Some 9) (Some 2)) ∷
    ((Decimal (Some 5) (Some 2), Decimal None (Some 4)), Decimal (Some 5) (Some 4)) ∷
    ((Decimal None (Some 2), Decimal None None), Decimal None (Some 2)) ∷
    ((Int64, Decimal (Some 9) None), Decimal (Some 9) (Some 0)) ∷
    ((Date, Decimal None None), Decimal None (Some 0)) ∷
    ((Decimal (Some 5) (Some 2), Date), Date) ∷ []

-- ---- integers beside a column

-- what a column's value and an integer on its right give: none where there is no rule
abbrev right_at : DataType → ScalarOp → ℤ → ℤ → Option (Option ℤ)
right_at dtype op k x =
    option_map (λ (rule : OperatorRule). value_at rule.formula x) (scalar_right_rule dtype op k)

-- what an integer and a column's value on its right give: none where there is no rule
abbrev left_at : ℤ → BinOp → DataType → ℤ → Option (Option ℤ)
left_at k op dtype x =
    option_map (λ (rule : OperatorRule). value_at rule.formula x) (scalar_left_rule k op dtype)

-- quotients round down but for the one that truncates, a rest has the divisor's sign, words wrap,
-- and a time outside the day is null
pub record KnownScalars : Type 0 where
  pub down : right_at (Duration Milliseconds) Div (pos 2) (negsuc 6) ≡ Some (Some (negsuc 3))
  pub truncated :
      right_at (Duration Milliseconds) TruncDiv (pos 2) (negsuc 6) ≡ Some (Some (negsuc 2))
  pub rest : right_at (Duration Milliseconds) Rem (negsuc 1) (pos 7) ≡ Some (Some (negsuc 0))
  pub by_zero : right_at (Duration Milliseconds) Div (pos 0) (pos 7) ≡ Some None
  pub least_turned :
      right_at (Duration Nanoseconds) Div (negsuc 0) (negsuc 9223372036854775807)
      ≡ Some (Some (negsuc 9223372036854775807))
  pub date_wraps : right_at Date Add (pos 1) (pos 2147483647) ≡ Some (Some (negsuc 2147483647))
  pub byte_wraps : right_at UInt8 Add (pos 1) (pos 255) ≡ Some (Some (pos 0))
  pub past_the_day : right_at Time Add (pos 1) (pos 86399999999999) ≡ Some None
  pub before_the_day : right_at Time Sub (pos 1) (pos 0) ≡ Some None
  pub no_boolean : right_at Boolean Add (pos 1) (pos 0) ≡ None
  pub from_left : left_at (pos 5) ops.Sub (Duration Milliseconds) (pos 7) ≡ Some (Some (negsuc 1))
  pub left_by_zero : left_at (pos 7) ops.Div (Duration Milliseconds) (pos 0) ≡ Some None
  pub decimal_dtype : scalar_dtype (Decimal (Some 5) (Some 2)) ≡ Some Int128
  pub text_dtype : scalar_dtype String ≡ None
  pub day_in_word : is_scalar_of Date (pos 2147483647) ≡ true
  pub day_past_word : is_scalar_of Date (pos 2147483648) ≡ false

-- ---- changes of a column's unit

-- a tick in another unit: none where there is no rule
abbrev changed_at : DataType → TimeUnit → ℤ → Option (Option ℤ)
changed_at dtype unit x =
    option_map (λ (rule : OperatorRule). value_at rule.formula x) (unit_change_rule dtype unit)

-- a finer unit wraps, a coarser one rounds down for moments and towards zero for lengths of time
pub record KnownUnitChanges : Type 0 where
  pub moment_wraps :
      changed_at (Datetime Milliseconds None) Nanoseconds (pos 9223372036854775807)
      ≡ Some (Some (negsuc 999999))
  pub length_wraps :
      changed_at (Duration Milliseconds) Microseconds (negsuc 9223372036854775807)
      ≡ Some (Some (pos 0))
  pub moment_down :
      changed_at (Datetime Nanoseconds None) Milliseconds (negsuc 1999998)
      ≡ Some (Some (negsuc 1))
  pub length_truncated :
      changed_at (Duration Nanoseconds) Milliseconds (negsuc 1999998) ≡ Some (Some (negsuc 0))
  pub same_unit :
      changed_at (Duration Microseconds) Microseconds (negsuc 4) ≡ Some (Some (negsuc 4))
  pub zone_kept :
      option_map (λ (rule : OperatorRule). rule.dtype)
      (unit_change_rule (Datetime Nanoseconds (Some (codes "UTC"))) Milliseconds)
      ≡ Some (Datetime Milliseconds (Some (codes "UTC")))
  pub no_date : changed_at Date Milliseconds (pos 1) ≡ None
