-- The rules of the tables as the code keeps them: what becomes of each tick.
use Rattle.std.specs.Prelude.{◌≡◌, ◌<◌, ◌^◌, ◌*◌, ℕ, pos, Bool, true, false}
use Rattle.std.specs.Prelude.{Option, Some, None}
use Rattle.std.specs.Int.{w32, w64}
use Rattle.col_types.specs.TimeUnit.{nanos_per_day}
use Rattle.col_types.specs.declared.data_type.DataType.{DataType}
use Rattle.col_types.specs.declared.cast_options.CastOptions.{CastOptions}
use Rattle.col_model.specs.Arithmetic.{Signed}
use Rattle.col_model.specs.Column.{day_values}
use Rattle.col_model.specs.Formula.{Formula, X, Constant, FloorBy, FloorMod, Fit}
use Rattle.col_model.specs.UnitChange as units
use Rattle.col_model.specs.CastTable.{CastRule, narrowed}
use Rattle.col_model.specs.OperatorTable.{OperatorRule}
use Rattle.col_series.specs.declared.tick_rule.TickRule.{TickRule}
use Rattle.col_series.specs.declared.tick_rule.TickRule.TheVariants as rules
use Rattle.col_series.specs.declared.tick_rule.TickWord.{TickWord}
use Rattle.col_series.specs.declared.tick_rule.TickWord.TheVariants as words

-- an integer in a word, and what the word is read as
abbrev pub in_tick_word : TickWord → CastOptions → Formula
in_tick_word words.Day options = narrowed options (Signed w32) X
in_tick_word words.Tick options = narrowed options (Signed w64) X
in_tick_word words.Time options = Fit day_values (narrowed options (Signed w64) X)

-- the rule of the cast table that leads to the word
abbrev pub word_cast : TickWord → CastOptions → CastRule
word_cast word options = record { formula = in_tick_word word options; monotone = true }

-- the formula that a rule stands for
abbrev pub formula_of : TickRule → Formula
formula_of rules.Same = X
formula_of (rules.DayStart day) = units.in_finer_unit day X
formula_of (rules.Word word options) = in_tick_word word options
formula_of (rules.Day day options) = narrowed options (Signed w32) (FloorBy X day)
formula_of (rules.Time day nanos) = units.times nanos (FloorMod X (Constant (pos day)))
formula_of (rules.Datetime change) = units.datetime_by change X
formula_of (rules.Duration change) = units.duration_by change X
formula_of (rules.WrappedDatetime change) = units.wrapped_datetime_by change X
formula_of (rules.WrappedDuration change) = units.wrapped_duration_by change X

-- a day's ticks are some, and a number of 64 bits
pub record IsDay (day : ℕ) : Type 0 where
  pub some : 0 < day
  pub small : day < 2 ^ 63

-- a day has so many ticks of so many nanoseconds
pub record IsWholeDay (day nanos : ℕ) : Type 0 where
  pub whole : day * nanos ≡ nanos_per_day
  pub proper : IsDay day

-- a rule divides by no zero, and its numbers fit into words
abbrev pub IsProper : TickRule → Type 0
IsProper rules.Same = Unit {0}
IsProper (rules.DayStart day) = IsDay day
IsProper (rules.Day day options) = IsDay day
IsProper (rules.Word word options) = Unit {0}
IsProper (rules.Time day nanos) = IsWholeDay day nanos
IsProper (rules.Datetime change) = units.IsProper change
IsProper (rules.Duration change) = units.IsProper change
IsProper (rules.WrappedDatetime change) = units.IsProper change
IsProper (rules.WrappedDuration change) = units.IsProper change

-- ---- as the tables have them

-- whether what the rule gives never decreases
abbrev pub is_monotone : TickRule → Bool
is_monotone (rules.Time day nanos) = false
is_monotone _ = true

-- a rule of the cast table, or none
abbrev pub cast_rule_of : Option TickRule → Option CastRule
cast_rule_of None = None
cast_rule_of (Some rule) =
    Some (record { formula = formula_of rule; monotone = is_monotone rule })

-- a type and a rule, as the tables of operators have them
abbrev pub unit_rule_of : DataType × TickRule → OperatorRule
unit_rule_of typed = record { dtype = typed.0; formula = formula_of typed.1 }
