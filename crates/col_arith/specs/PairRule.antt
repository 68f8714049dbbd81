-- The rules of the operator table as the code keeps them.
use Rattle.std.specs.Prelude.{◌≡◌, ◌<◌, ◌^◌, ℕ, ℤ, Bool, true, Option, Some, None}
use Rattle.std.specs.Int.{w32, w64}
use Rattle.col_types.specs.TimeUnit.{ticks_per_day}
use Rattle.col_types.specs.declared.time_unit.TimeUnit.TheVariants.{Milliseconds}
use Rattle.col_types.specs.declared.data_type.DataType.{DataType}
use Rattle.col_model.specs.Arithmetic.{Interval, Signed, word_values, is_within}
use Rattle.col_model.specs.Column.{day_values, values_of, is_built_type}
use Rattle.col_model.specs.Formula as formulas
use Rattle.col_model.specs.Formula.{Formula, X, Y, FloorBy, FloorMod, value_of, on_both}
use Rattle.col_model.specs.UnitChange as units
use Rattle.col_model.specs.UnitChange.{times, in_finer_unit, datetime_by, duration_by}
use Rattle.col_model.specs.OperatorTable.{OperatorRule, wrapping, as_date, as_tick, number_form}
use Rattle.col_arith.specs.declared.pair_rule.AddOrSub.{AddOrSub}
use Rattle.col_arith.specs.declared.pair_rule.AddOrSub.TheVariants.{Add, Sub}
use Rattle.col_arith.specs.declared.pair_rule.Operand.{Operand}
use Rattle.col_arith.specs.declared.pair_rule.Operand.TheVariants.{Moment, Length, Day}
use Rattle.col_arith.specs.declared.pair_rule.PairRule.{PairRule}
use Rattle.col_arith.specs.declared.pair_rule.PairRule.TheVariants.{DatesApart, TimesApart}
use Rattle.col_arith.specs.declared.pair_rule.PairRule.TheVariants.{DateWith, LengthThenDate}
use Rattle.col_arith.specs.declared.pair_rule.PairRule.TheVariants.{Ticks, Rest, Numbers}
use Rattle.col_arith.specs.declared.pair_rule.PairRule.TheVariants.{LengthTimes, TimesLength}
use Rattle.col_arith.specs.declared.pair_rule.PairRule.TheVariants.{LengthPart}
use Rattle.col_arith.specs.declared.pair_rule.TypedRule.{TypedRule}

-- the formula of a sum or a difference
abbrev pub add_or_sub : AddOrSub → Formula → Formula → Formula
add_or_sub Add left right = formulas.Sum left right
add_or_sub Sub left right = formulas.Difference left right

-- an operand in the answer's unit
abbrev pub operand_of : Operand → Formula → Formula
operand_of (Moment change) ticks = datetime_by change ticks
operand_of (Length change) ticks = duration_by change ticks
operand_of (Day ticks_of_it) days = in_finer_unit ticks_of_it days

-- the formula that a rule stands for
abbrev pub formula_of : PairRule → Formula
formula_of DatesApart = times (ticks_per_day Milliseconds) (formulas.Difference X Y)
formula_of TimesApart = formulas.Difference X Y
formula_of (DateWith op day change) =
    as_date (FloorBy (wrapping (add_or_sub op) (times day X) (duration_by change Y)) day)
formula_of (LengthThenDate day) = as_date (formulas.Sum (FloorBy X day) Y)
formula_of (Ticks op left right) =
    wrapping (add_or_sub op) (operand_of left X) (operand_of right Y)
formula_of (Rest left right) = FloorMod (duration_by left X) (duration_by right Y)
formula_of (Numbers op) = number_form op (Signed w64)
formula_of LengthTimes = wrapping formulas.Product X (as_tick Y)
formula_of TimesLength = wrapping formulas.Product (as_tick X) Y
formula_of LengthPart = wrapping formulas.FloorDiv X (as_tick Y)

-- the rule of the table
abbrev pub operator_rule_of : TypedRule → OperatorRule
operator_rule_of typed = record { dtype = typed.dtype; formula = formula_of typed.rule }

-- the rule of the table, or none
abbrev pub listed_rule_of : Option TypedRule → Option OperatorRule
listed_rule_of None = None
listed_rule_of (Some typed) = Some (operator_rule_of typed)

-- ---- values

-- the values of dates
abbrev pub date_values : Interval
date_values = word_values (Signed w32)

-- the values of moments and of lengths of time
abbrev pub tick_values : Interval
tick_values = word_values (Signed w64)

-- the values that an operand can have
abbrev pub operand_values : Operand → Interval
operand_values (Moment change) = tick_values
operand_values (Length change) = tick_values
operand_values (Day ticks_of_it) = date_values

-- the values that the left operand of a rule can have
abbrev pub left_values : PairRule → Interval
left_values DatesApart = date_values
left_values TimesApart = day_values
left_values (DateWith op day change) = date_values
left_values (LengthThenDate day) = tick_values
left_values (Ticks op left right) = operand_values left
left_values (Rest left right) = tick_values
left_values (Numbers op) = tick_values
left_values LengthTimes = tick_values
left_values TimesLength = tick_values
left_values LengthPart = tick_values

-- the values that the right operand of a rule can have
abbrev pub right_values : PairRule → Interval
right_values DatesApart = date_values
right_values TimesApart = day_values
right_values (DateWith op day change) = tick_values
right_values (LengthThenDate day) = date_values
right_values (Ticks op left right) = operand_values right
right_values (Rest left right) = tick_values
right_values (Numbers op) = tick_values
right_values LengthTimes = tick_values
right_values TimesLength = tick_values
right_values LengthPart = tick_values

-- the values that the answer of a rule can have
abbrev pub answer_values : PairRule → Interval
answer_values (DateWith op day change) = date_values
answer_values (LengthThenDate day) = date_values
answer_values _ = tick_values

-- whether a tick is null or in the interval
abbrev pub is_tick_in : Interval → Option ℤ → Bool
is_tick_in range None = true
is_tick_in range (Some tick) = is_within range tick

-- two ticks under the rule
abbrev pub pair_tick : PairRule → Option ℤ → Option ℤ → Option ℤ
pair_tick rule left right = on_both (value_of (formula_of rule)) left right

-- ---- factors

-- a coarser unit's factor is not 0, and a day's ticks are a number of 64 bits
abbrev pub IsProperOperand : Operand → Type 0
IsProperOperand (Moment change) = units.IsProper change
IsProperOperand (Length change) = units.IsProper change
IsProperOperand (Day ticks_of_it) = ticks_of_it < 2 ^ 63

-- a day has more ticks than one, and 64 bits hold their number
pub record IsDay (day : ℕ) : Type 0 where
  pub some : 1 < day
  pub small : day < 2 ^ 63

-- a day has so few ticks that 64 bits hold the beginning of each date
pub record IsShortDay (day : ℕ) : Type 0 where
  pub some : 1 < day
  pub short : day < 2 ^ 32

-- a rule divides by no zero but where the table says so, and its numbers fit into words
abbrev pub IsProper : PairRule → Type 0
IsProper DatesApart = Unit {0}
IsProper TimesApart = Unit {0}
IsProper (DateWith op day change) = IsShortDay day × units.IsProper change
IsProper (LengthThenDate day) = IsDay day
IsProper (Ticks op left right) = IsProperOperand left × IsProperOperand right
IsProper (Rest left right) = units.IsProper left × units.IsProper right
IsProper (Numbers op) = Unit {0}
IsProper LengthTimes = Unit {0}
IsProper TimesLength = Unit {0}
IsProper LengthPart = Unit {0}

-- what a rule has to do with the types of its operands and its answer
pub record FitsTypes (left right : DataType) (typed : TypedRule) : Type 0 where
  pub proper : IsProper typed.rule
  pub left_fits : values_of left ≡ Some (left_values typed.rule)
  pub right_fits : values_of right ≡ Some (right_values typed.rule)
  pub answer_fits : values_of typed.dtype ≡ Some (answer_values typed.rule)
  pub built :
      is_built_type left ≡ true → is_built_type right ≡ true → is_built_type typed.dtype ≡ true
