-- The cast table: for each pair of types the formula of a slot, and whether it keeps the order.
use Rattle.std.specs.Prelude.{Bool, true, false, ◌&&◌, ◌||◌, pos, Option, Some, None, unwrap_or}
use Rattle.std.specs.Prelude.{if◌then◌else◌}
use Rattle.std.specs.Option.{option_map, option_or}
use Rattle.std.specs.Int.{w32}
use Rattle.col_types.specs.TimeUnit.{nanos_per_tick, ticks_per_day}
use Rattle.col_types.specs.DataType.{is_integer, is_temporal, same_type}
use Rattle.col_types.specs.declared.time_unit.TimeUnit.{TimeUnit}
use Rattle.col_types.specs.declared.time_unit.TimeUnit.TheVariants.{Nanoseconds}
use Rattle.col_types.specs.declared.data_type.DataType.{DataType, Date, Datetime, Duration, Time}
use Rattle.col_types.specs.declared.data_type.DataType.{Boolean, Decimal}
use Rattle.col_types.specs.declared.cast_options.CastOptions.{CastOptions}
use Rattle.col_types.specs.declared.cast_options.CastOptions.TheVariants.{Strict, NonStrict}
use Rattle.col_types.specs.declared.cast_options.CastOptions.TheVariants.{Overflowing}
use Rattle.col_model.specs.Arithmetic.{WordType, Signed, word_values}
use Rattle.col_model.specs.Column.{physical_word, day_values}
use Rattle.col_model.specs.Formula.{Formula, X, Constant, FloorBy, FloorMod, Fit, Wrap, NonZero}
use Rattle.col_model.specs.UnitChange.{times, datetime_in_unit, duration_in_unit, day_in_unit}

-- a rule of the table; a monotone formula never decreases
pub record CastRule : Type 0 where
  pub formula : Formula
  pub monotone : Bool

-- ---- the target

-- the target with what it leaves open taken from the operand's type: a decimal's precision and
-- scale from a decimal, and from another type no precision and no digits behind the point
abbrev pub resolved_target : DataType → DataType → DataType
resolved_target (Decimal p s) (Decimal q t) = Decimal (option_or q p) (option_or t s)
resolved_target from (Decimal q t) = Decimal q (Some (unwrap_or t 0))
resolved_target from target = target

-- ---- the rules

-- a value in a narrower word: null where the word doesn't hold it, or wrapped where the cast may
-- overflow
abbrev pub narrowed : CastOptions → WordType → Formula → Formula
narrowed Strict word value = Fit (word_values word) value
narrowed NonStrict word value = Fit (word_values word) value
narrowed Overflowing word value = Wrap word value

-- the day of a moment, in the word of dates
abbrev pub day_of : CastOptions → TimeUnit → Formula
day_of options unit = narrowed options (Signed w32) (FloorBy X (ticks_per_day unit))

-- the nanoseconds of a moment since its day began
abbrev pub time_of : TimeUnit → Formula
time_of unit = times (nanos_per_tick unit) (FloorMod X (Constant (pos (ticks_per_day unit))))

-- a rule that never decreases
abbrev pub rising : Formula → Option CastRule
rising formula = Some (record { formula = formula; monotone = true })

-- the rule for two temporal types that differ, or none; an option plays a part from moments to dates
-- alone
abbrev pub temporal_rule : DataType → DataType → CastOptions → Option CastRule
temporal_rule Date (Datetime unit _) options = rising (day_in_unit unit X)
temporal_rule (Datetime from _) (Datetime to _) options = rising (datetime_in_unit from to X)
temporal_rule (Datetime unit _) Date options = rising (day_of options unit)
temporal_rule (Datetime unit _) Time options =
    Some (record { formula = time_of unit; monotone = false })
temporal_rule (Duration from) (Duration to) options = rising (duration_in_unit from to X)
temporal_rule Time (Duration unit) options = rising (duration_in_unit Nanoseconds unit X)
temporal_rule _ _ options = None

-- whether the type is that of truth values
abbrev pub is_boolean : DataType → Bool
is_boolean Boolean = true
is_boolean _ = false

-- a value in the word that stores the target; a time lies in the day besides
abbrev pub in_word : DataType → CastOptions → WordType → Formula
in_word Time options word = Fit day_values (narrowed options word X)
in_word target options word = narrowed options word X

-- a value as one of a type that is stored in a word
abbrev pub to_word : DataType → CastOptions → Option CastRule
to_word target options =
    option_map (λ word. record { formula = in_word target options word; monotone = true })
    (physical_word target)

-- whether a slot of the type counts something: an integer, or days or ticks
abbrev pub is_counted : DataType → Bool
is_counted dtype = is_integer dtype || is_temporal dtype

-- whether a word of the one type is read as one of the other: one of them is an integer's
abbrev pub is_reread : DataType → DataType → Bool
is_reread from target = is_integer from && is_counted target || is_temporal from && is_integer target

-- the rule from or to an integer or a truth value, or none: an integer is true where it isn't 0,
-- and a truth value counts as 0 or 1
abbrev pub word_rule : DataType → DataType → CastOptions → Option CastRule
word_rule Boolean target options = if is_counted target then rising X else None
word_rule from Boolean options =
    if is_integer from then Some (record { formula = NonZero X; monotone = false }) else None
word_rule from target options = if is_reread from target then to_word target options else None

-- the rule for a pair of types that differ, or none
abbrev pub pair_rule : DataType → DataType → CastOptions → Option CastRule
pair_rule from target options =
    option_or (temporal_rule from target options) (word_rule from target options)

-- the rule from a type to a target that leaves nothing open, or none: the same type keeps each slot
abbrev pub cast_rule : DataType → DataType → CastOptions → Option CastRule
cast_rule from target options =
    if same_type from target then rising X else pair_rule from target options
