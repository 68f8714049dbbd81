-- The operator table: for each operator and ordered pair of types the answer's type and the
-- formula of a slot.
use Rattle.std.specs.Prelude.{Bool, ◌&&◌, ◌||◌, Option, Some, None, Result, if◌then◌else◌}
use Rattle.std.specs.Option.{option_and_then, option_map, option_or, ok_or}
use Rattle.std.specs.Int.{w32, w64}
use Rattle.col_types.specs.TimeUnit.{coarser_unit, ticks_per_day}
use Rattle.col_types.specs.DataType.{is_integer, same_zone}
use Rattle.col_types.specs.Supertype.{supertype_of}
use Rattle.col_types.specs.declared.time_unit.TimeUnit.{TimeUnit}
use Rattle.col_types.specs.declared.time_unit.TimeUnit.TheVariants.{Nanoseconds, Milliseconds}
use Rattle.col_types.specs.declared.data_type.DataType.{DataType, Date, Datetime, Duration, Time}
use Rattle.col_types.specs.declared.data_type.DataType.{Boolean, UInt32}
use Rattle.col_types.specs.declared.operator.BinOp.{BinOp}
use Rattle.col_types.specs.declared.operator.BinOp.TheVariants.{Add, Sub, Mul, Div, Rem}
use Rattle.col_types.specs.declared.error.PolarsError.{PolarsError}
use Rattle.col_model.specs.OperationNames.{name_of_op, unsupported}
use Rattle.col_model.specs.Arithmetic.{WordType, Signed, word_values}
use Rattle.col_model.specs.CastTable.{is_boolean}
use Rattle.col_model.specs.Column.{physical_word}
use Rattle.col_model.specs.Formula.{Formula, X, Y, Sum, Difference, Product, FloorBy, FloorDiv}
use Rattle.col_model.specs.Formula.{FloorMod, Fit, Wrap}
use Rattle.col_model.specs.UnitChange.{times, datetime_in_unit, duration_in_unit, day_in_unit}

-- a rule of the table: the answer's type, and the formula of a slot
pub record OperatorRule : Type 0 where
  pub dtype : DataType
  pub formula : Formula

-- a rule, as a table has it
abbrev pub giving : DataType → Formula → Option OperatorRule
giving dtype formula = Some (record { dtype = dtype; formula = formula })

-- two values joined, and what 64 bits keep of it
abbrev pub wrapping : (Formula → Formula → Formula) → Formula → Formula → Formula
wrapping join left right = Wrap (Signed w64) (join left right)

-- a day number, where the word of dates holds it
abbrev pub as_date : Formula → Formula
as_date days = Fit (word_values (Signed w32)) days

-- a date joined with a length of time: the day in which the moment lies. Both are first told in the
-- coarser of milliseconds and the length's unit
abbrev pub date_joined : (Formula → Formula → Formula) → TimeUnit → Formula
date_joined join unit =
    let w = coarser_unit Milliseconds unit in
    let day = ticks_per_day w in
    as_date (FloorBy (wrapping join (times day X) (duration_in_unit unit w Y)) day)

-- sums; where units differ, both operands go to the coarser one
abbrev pub sum_rule : DataType → DataType → Option OperatorRule
sum_rule Date (Duration v) = giving Date (date_joined Sum v)
sum_rule (Duration u) Date = giving Date (as_date (Sum (FloorBy X (ticks_per_day u)) Y))
sum_rule (Datetime u y) (Duration v) =
    let w = coarser_unit u v in
    giving (Datetime w y) (wrapping Sum (datetime_in_unit u w X) (duration_in_unit v w Y))
sum_rule (Duration u) (Datetime v z) =
    let w = coarser_unit u v in
    giving (Datetime w z) (wrapping Sum (duration_in_unit u w X) (datetime_in_unit v w Y))
sum_rule (Duration u) (Duration v) =
    let w = coarser_unit u v in
    giving (Duration w) (wrapping Sum (duration_in_unit u w X) (duration_in_unit v w Y))
sum_rule _ _ = None

-- differences; moments are apart only in one zone
abbrev pub difference_rule : DataType → DataType → Option OperatorRule
difference_rule Date Date =
    giving (Duration Milliseconds) (times (ticks_per_day Milliseconds) (Difference X Y))
difference_rule Time Time = giving (Duration Nanoseconds) (Difference X Y)
difference_rule Date (Duration v) = giving Date (date_joined Difference v)
difference_rule Date (Datetime v z) = giving (Duration v) (wrapping Difference (day_in_unit v X) Y)
difference_rule (Datetime u y) Date = giving (Duration u) (wrapping Difference X (day_in_unit u Y))
difference_rule (Datetime u y) (Datetime v z) =
    let w = coarser_unit u v in
    if same_zone y z
    then giving (Duration w)
    (wrapping Difference (datetime_in_unit u w X) (datetime_in_unit v w Y))
    else None
difference_rule (Datetime u y) (Duration v) =
    let w = coarser_unit u v in
    giving (Datetime w y) (wrapping Difference (datetime_in_unit u w X) (duration_in_unit v w Y))
difference_rule (Duration u) (Duration v) =
    let w = coarser_unit u v in
    giving (Duration w) (wrapping Difference (duration_in_unit u w X) (duration_in_unit v w Y))
difference_rule _ _ = None

-- what a division of two lengths of time leaves
abbrev pub rest_rule : DataType → DataType → Option OperatorRule
rest_rule (Duration u) (Duration v) =
    let w = coarser_unit u v in
    giving (Duration w) (FloorMod (duration_in_unit u w X) (duration_in_unit v w Y))
rest_rule _ _ = None

-- an integer as a tick, null where 64 bits don't hold it
abbrev pub as_tick : Formula → Formula
as_tick number = Fit (word_values (Signed w64)) number

-- a rule, where the type is that of an integer
abbrev pub with_integer : DataType → Option OperatorRule → Option OperatorRule
with_integer dtype rule = if is_integer dtype then rule else None

-- products: a length of time so many times
abbrev pub product_rule : DataType → DataType → Option OperatorRule
product_rule (Duration u) right =
    with_integer right (giving (Duration u) (wrapping Product X (as_tick Y)))
product_rule left (Duration v) =
    with_integer left (giving (Duration v) (wrapping Product (as_tick X) Y))
product_rule _ _ = None

-- quotients: a part of a length of time, rounded down
abbrev pub quotient_rule : DataType → DataType → Option OperatorRule
quotient_rule (Duration u) right =
    with_integer right (giving (Duration u) (wrapping FloorDiv X (as_tick Y)))
quotient_rule _ _ = None

-- the rule for an operator with a temporal type on a side, or none
abbrev pub temporal_rule : BinOp → DataType → DataType → Option OperatorRule
temporal_rule Add left right = sum_rule left right
temporal_rule Sub left right = difference_rule left right
temporal_rule Mul left right = product_rule left right
temporal_rule Div left right = quotient_rule left right
temporal_rule Rem left right = rest_rule left right

-- ---- numbers

-- whether the type is that of an integer or of a truth value
abbrev pub is_number : DataType → Bool
is_number dtype = is_integer dtype || is_boolean dtype

-- two numbers joined in a word: quotients round down, a rest has the divisor's sign
abbrev pub number_form : BinOp → WordType → Formula
number_form Add word = Wrap word (Sum X Y)
number_form Sub word = Wrap word (Difference X Y)
number_form Mul word = Wrap word (Product X Y)
number_form Div word = Wrap word (FloorDiv X Y)
number_form Rem word = FloorMod X Y

-- the rule for numbers in their supertype, or none where there is none
abbrev pub in_supertype : BinOp → Option DataType → Option OperatorRule
in_supertype op supertype =
    option_and_then (λ dtype. option_map (λ word. record {
      dtype = dtype;
      formula = number_form op word;
    }) (physical_word dtype)) supertype

-- the rule for an operator between truth values, or none: how many of the two are true
abbrev pub truth_rule : BinOp → Option OperatorRule
truth_rule Add = giving UInt32 (Sum X Y)
truth_rule _ = None

-- the rule for an operator between integers and truth values, or none
abbrev pub number_rule : BinOp → DataType → DataType → Option OperatorRule
number_rule op Boolean Boolean = truth_rule op
number_rule op left right =
    if is_number left && is_number right then in_supertype op (supertype_of left right) else None

-- ---- all types

-- the rule that the table lists for an operator and two types, or none
abbrev pub listed_rule : BinOp → DataType → DataType → Option OperatorRule
listed_rule op left right = option_or (temporal_rule op left right) (number_rule op left right)

-- the rule for an operator and two types, or the refusal
abbrev pub operator_rule : BinOp → DataType → DataType → Result OperatorRule PolarsError
operator_rule op left right =
    ok_or (listed_rule op left right) (unsupported (name_of_op op) left right)
