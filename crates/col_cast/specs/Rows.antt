-- The rows of the cast table as the code keeps them.
use Rattle.std.specs.Prelude.{◌≡◌, Bool, true, false, Some, unwrap_or}
use Rattle.std.specs.Int.{w8, w32, w64}
use Rattle.col_types.specs.declared.data_type.DataType.{DataType}
use Rattle.col_types.specs.declared.cast_options.CastOptions.{CastOptions}
use Rattle.col_model.specs.Arithmetic.{WordType, Signed, Unsigned}
use Rattle.col_model.specs.Formula.{Formula, X, NonZero}
use Rattle.col_model.specs.CastTable as table
use Rattle.col_model.specs.CastTable.{CastRule, cast_rule, in_word, is_boolean}
use Rattle.col_model.specs.UnitChange.{datetime_in_unit, duration_in_unit, day_in_unit}
use Rattle.col_cast.specs.Casts.{word_of, is_plain}
use Rattle.col_cast.specs.declared.row.Row.{Row}
use Rattle.col_cast.specs.declared.row.Row.TheVariants as rows
use Rattle.col_cast.specs.declared.row.TickRow.{TickRow}
use Rattle.col_cast.specs.declared.row.TickRow.TheVariants as ticks

-- the word of a type; the last one stands for none
abbrev pub stored_word : DataType → WordType
stored_word dtype = unwrap_or (word_of dtype) (Signed w64)

-- the formula of a row that gives ticks
abbrev pub tick_formula : TickRow → Formula
tick_formula (ticks.DayStart unit) = day_in_unit unit X
tick_formula (ticks.Time unit) = table.time_of unit
tick_formula (ticks.Datetime from to) = datetime_in_unit from to X
tick_formula (ticks.Duration from to) = duration_in_unit from to X

-- the formula of a row
abbrev pub formula_of : DataType → CastOptions → Row → Formula
formula_of to options rows.Same = X
formula_of to options rows.Number = X
formula_of to options rows.Reread = in_word to options (stored_word to)
formula_of to options rows.Truth = NonZero X
formula_of to options (rows.Day unit) = table.day_of options unit
formula_of to options (rows.Ticks row) = tick_formula row

-- whether what a row gives never decreases
abbrev pub is_monotone : Row → Bool
is_monotone rows.Truth = false
is_monotone (rows.Ticks (ticks.Time unit)) = false
is_monotone _ = true

-- the rule of a row
abbrev pub rule_of : DataType → CastOptions → Row → CastRule
rule_of to options row = record { formula = formula_of to options row; monotone = is_monotone row }

-- the word from which a row makes ticks
abbrev pub tick_source : TickRow → WordType
tick_source (ticks.DayStart unit) = Signed w32
tick_source _ = Signed w64

-- the words from which a row leads and to which, and that it changes slots
pub record Leads (from to : DataType) (source target : WordType) (formula : Formula) : Type 0 where
  pub source_word : word_of from ≡ Some source
  pub target_word : word_of to ≡ Some target
  pub changes : is_plain formula ≡ false

-- what the types of a row meet
abbrev pub IsRowOf : DataType → DataType → Row → Type 0
IsRowOf from to rows.Same = word_of to ≡ word_of from
IsRowOf from to rows.Number = is_boolean from ≡ true
IsRowOf from to rows.Reread = Unit {0}
IsRowOf from to rows.Truth = word_of to ≡ Some (Unsigned w8)
IsRowOf from to (rows.Day unit) = (word_of from ≡ Some (Signed w64)) × (word_of to ≡ Some (Signed w32))
IsRowOf from to (rows.Ticks row) = Leads from to (tick_source row) (Signed w64) (tick_formula row)

-- a row that was chosen for two types: it is the table's, whatever the options
pub record IsChosen (from to : DataType) (row : Row) : Type 0 where
  pub listed :
      (options : CastOptions) → cast_rule from to options ≡ Some (rule_of to options row)
  pub fits : IsRowOf from to row
