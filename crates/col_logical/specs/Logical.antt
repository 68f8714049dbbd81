-- Columns of words that are read as another type.
use Rattle.std.specs.Prelude.{◌≡◌, ℕ, ℤ, Bool, true, false, List, Option, Some, None}
use Rattle.std.specs.List.{list_all}
use Rattle.col_types.specs.declared.time_unit.TimeUnit.{TimeUnit}
use Rattle.col_types.specs.declared.data_type.DataType.{DataType, Date, Datetime, Duration, Time}
use Rattle.col_types.specs.declared.data_type.DataType.{Int64}
use Rattle.col_types.specs.declared.field.Field.{Field}
use Rattle.col_model.specs.Arithmetic.{WordType, fitting_value}
use Rattle.col_model.specs.Value.{Value}
use Rattle.col_model.specs.Column.{Column, day_values, is_built_type, is_slot_of, physical_word}
use Rattle.col_model.specs.Chunked.{Chunked}
use Rattle.col_model.specs.Formula.{Formula, X, value_of}
use Rattle.col_model.specs.UnitChange.{unit_change}
use Rattle.col_model.specs.declared.ticks.UnitChange.{UnitChange}
use Rattle.col_rule.specs.Columns.{mapped_column}

-- ---- kinds of types

-- whether a type is that of dates
abbrev pub is_date : DataType → Bool
is_date Date = true
is_date _ = false

-- whether a type is one of moments
abbrev pub is_datetime : DataType → Bool
is_datetime (Datetime unit _) = true
is_datetime _ = false

-- whether a type is one of lengths of time
abbrev pub is_duration : DataType → Bool
is_duration (Duration unit) = true
is_duration _ = false

-- whether a type is that of times of the day
abbrev pub is_time : DataType → Bool
is_time Time = true
is_time _ = false

-- ---- parts of a type

-- the unit of a type that has one
abbrev pub unit_of : DataType → Option TimeUnit
unit_of (Datetime unit _) = Some unit
unit_of (Duration unit) = Some unit
unit_of _ = None

-- the zone of a type that has one
abbrev pub zone_in : DataType → Option (List ℕ)
zone_in (Datetime unit name) = name
zone_in _ = None

-- the type with another unit
abbrev pub with_unit : TimeUnit → DataType → DataType
with_unit unit (Datetime old name) = Datetime unit name
with_unit unit (Duration old) = Duration unit
with_unit unit dtype = dtype

-- the type with another zone
abbrev pub with_zone : Option (List ℕ) → DataType → DataType
with_zone name (Datetime unit old) = Datetime unit name
with_zone name dtype = dtype

-- ---- columns

-- the column as one of another type: the same slots in the same chunks
abbrev pub retyped : DataType → Chunked → Chunked
retyped dtype chunked = record chunked { column = record chunked.column { dtype = dtype } }

-- the name and the type of a column
abbrev pub field_of : Column → Field
field_of column = record { name = column.name; dtype = column.dtype }

-- whether each slot lies in the day, where the type is that of times
abbrev pub lie_in_the_day : DataType → List (Option Value) → Bool
lie_in_the_day Time slots = list_all (is_slot_of Time) slots
lie_in_the_day _ slots = true

-- what words of a type read as another type meet: it is of the kind, a column can have it, it is
-- kept in such words, and times lie in the day
pub record IsLogical (is_kind : DataType → Bool) (word : WordType) (dtype : DataType)
    (slots : List (Option Value)) : Type 0 where
  pub kind : is_kind dtype ≡ true
  pub typed : is_built_type dtype ≡ true
  pub stored : physical_word dtype ≡ Some word
  pub day : lie_in_the_day dtype slots ≡ true

-- ---- words that are changed

-- a function at each word, in the same chunks
abbrev pub with_words : (ℤ → Option ℤ) → Chunked → Chunked
with_words f chunked = record chunked { column = mapped_column f Int64 chunked.column }

-- words as times of the day: null where they lie outside it
abbrev pub times_of : Chunked → Chunked
times_of chunked = with_words (fitting_value day_values) chunked

-- a tick of a unit in another one, by what becomes of it in a change of unit
abbrev pub tick_in_unit : (UnitChange → Formula → Formula) → TimeUnit → TimeUnit → ℤ → Option ℤ
tick_in_unit changed from to x = value_of (changed (unit_change from to) X) x x

-- each tick of a unit in another one
abbrev pub in_unit : (UnitChange → Formula → Formula) → TimeUnit → TimeUnit → Chunked → Chunked
in_unit changed from to chunked = with_words (tick_in_unit changed from to) chunked
