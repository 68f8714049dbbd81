-- Each rule of the tables gives values of its answer's type.
use Rattle.std.specs.Prelude.{◌≡◌, ℤ, Bool, true, Some}
use Rattle.col_types.specs.DataType.{is_built}
use Rattle.col_types.specs.declared.data_type.DataType.{DataType}
use Rattle.col_types.specs.declared.time_unit.TimeUnit.{TimeUnit}
use Rattle.col_types.specs.declared.cast_options.CastOptions.{CastOptions}
use Rattle.col_types.specs.declared.operator.BinOp.{BinOp}
use Rattle.col_types.specs.declared.operator.ScalarOp.{ScalarOp}
use Rattle.col_model.specs.Value.{whole}
use Rattle.col_model.specs.Column.{values_of, is_value_in}
use Rattle.col_model.specs.Formula.{Formula, value_of}
use Rattle.col_model.specs.CastTable.{CastRule, cast_rule}
use Rattle.col_model.specs.OperatorTable.{OperatorRule, listed_rule}
use Rattle.col_model.specs.ScalarTable.{scalar_right_rule, scalar_left_rule, is_scalar_of}
use Rattle.col_model.specs.ScalarTable.{unit_change_rule}

-- whether an integer is a value of the type
abbrev pub is_value_of : DataType → ℤ → Bool
is_value_of dtype x = is_value_in (values_of dtype) (whole x)

-- on values of two types a formula gives values of a third, where it gives any
abbrev pub GivesValues : DataType → DataType → DataType → Formula → Type 0
GivesValues left right answer formula =
    (x y value : ℤ) → is_value_of left x ≡ true → is_value_of right y ≡ true →
    value_of formula x y ≡ Some value → is_value_of answer value ≡ true

-- each rule for casts between types of which columns exist
abbrev pub CastsGiveValues : Type 0
CastsGiveValues =
    (from target : DataType) (options : CastOptions) (rule : CastRule) → is_built from ≡ true →
    is_built target ≡ true → cast_rule from target options ≡ Some rule →
    GivesValues from from target rule.formula

-- a rule whose answer's type is one of which columns exist, and whose slots are values of it
pub record RuleGivesValues (left right : DataType) (rule : OperatorRule) : Type 0 where
  pub built : is_built rule.dtype ≡ true
  pub values : GivesValues left right rule.dtype rule.formula

-- each rule for operators
abbrev pub OperatorsGiveValues : Type 0
OperatorsGiveValues =
    (op : BinOp) (left right : DataType) (rule : OperatorRule) → is_built left ≡ true →
    is_built right ≡ true → listed_rule op left right ≡ Some rule → RuleGivesValues left right rule

-- each rule for integers on the right that the word has
abbrev pub RightScalarsGiveValues : Type 0
RightScalarsGiveValues =
    (dtype : DataType) (op : ScalarOp) (k : ℤ) (rule : OperatorRule) → is_built dtype ≡ true →
    is_scalar_of dtype k ≡ true → scalar_right_rule dtype op k ≡ Some rule →
    RuleGivesValues dtype dtype rule

-- each rule for integers on the left
abbrev pub LeftScalarsGiveValues : Type 0
LeftScalarsGiveValues =
    (k : ℤ) (op : BinOp) (dtype : DataType) (rule : OperatorRule) → is_built dtype ≡ true →
    scalar_left_rule k op dtype ≡ Some rule → RuleGivesValues dtype dtype rule

-- each rule for changes of a unit
abbrev pub UnitChangesGiveValues : Type 0
UnitChangesGiveValues =
    (dtype : DataType) (unit : TimeUnit) (rule : OperatorRule) → is_built dtype ≡ true →
    unit_change_rule dtype unit ≡ Some rule → RuleGivesValues dtype dtype rule
