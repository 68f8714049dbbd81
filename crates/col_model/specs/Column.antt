-- A column as contracts see it: a name, a type, slots, and the claim on their order.
use Rattle.std.specs.Prelude.{◌≡◌, ◌<◌, ◌^◌, ◌-◌, ◌&&◌, ℕ, pos, Bool, true, false, List, length}
use Rattle.std.specs.Prelude.{Option, Some, None}
use Rattle.std.specs.List.{list_all}
use Rattle.std.specs.Option.{option_map}
use Rattle.std.specs.Int.{w8, w16, w32, w64, w128}
use Rattle.col_types.specs.TimeUnit.{nanos_per_day}
use Rattle.col_types.specs.DataType.{is_built, is_column_type, physical_leaf}
use Rattle.col_types.specs.declared.data_type.DataType.{DataType, Int8, Int16, Int32, Int64, Int128}
use Rattle.col_types.specs.declared.data_type.DataType.{UInt8, UInt16, UInt32, UInt64, Boolean}
use Rattle.col_types.specs.declared.data_type.DataType.{Time}
use Rattle.col_types.specs.declared.is_sorted.IsSorted.{IsSorted}
use Rattle.col_model.specs.Arithmetic.{Interval, is_within, WordType, Signed, Unsigned, word_values}
use Rattle.col_model.specs.Value.{Value, Flat, Whole}
use Rattle.col_model.specs.Sortedness.{is_flag_true}

-- a slot is null or a value
pub record Column : Type 0 where
  pub name : List ℕ
  pub dtype : DataType
  pub slots : List (Option Value)
  pub flag : IsSorted

-- the word of an integer type
abbrev pub integer_word : DataType → Option WordType
integer_word Int8 = Some (Signed w8)
integer_word Int16 = Some (Signed w16)
integer_word Int32 = Some (Signed w32)
integer_word Int64 = Some (Signed w64)
integer_word Int128 = Some (Signed w128)
integer_word UInt8 = Some (Unsigned w8)
integer_word UInt16 = Some (Unsigned w16)
integer_word UInt32 = Some (Unsigned w32)
integer_word UInt64 = Some (Unsigned w64)
integer_word _ = None

-- the word in which a column of the type keeps its integers: that of the type that stores it
abbrev pub physical_word : DataType → Option WordType
physical_word dtype = integer_word (physical_leaf dtype)

-- whether a column can have the type, and columns of it exist
abbrev pub is_built_type : DataType → Bool
is_built_type dtype = is_built dtype && is_column_type dtype

-- 0 for false and 1 for true
abbrev pub truth_values : Interval
truth_values = record { low = pos 0; high = pos 1 }

-- the nanoseconds of a day, from its beginning on
abbrev pub day_values : Interval
day_values = record { low = pos 0; high = pos (nanos_per_day - 1) }

-- the integers that are values of the type: those of its word, for a time those of a day
abbrev pub values_of : DataType → Option Interval
values_of Time = Some day_values
values_of Boolean = Some truth_values
values_of dtype = option_map word_values (physical_word dtype)

-- whether the interval is there and has the value
abbrev pub is_value_in : Option Interval → Value → Bool
is_value_in (Some range) (Flat (Whole x)) = is_within range x
is_value_in _ _ = false

-- whether a slot may stand in a column of the type
abbrev pub is_slot_of : DataType → Option Value → Bool
is_slot_of dtype None = true
is_slot_of dtype (Some value) = is_value_in (values_of dtype) value

-- what holds of each column
pub record IsValidColumn (column : Column) : Type 0 where
  pub short : length column.slots < 2 ^ 32
  pub typed : is_built_type column.dtype ≡ true
  pub values : list_all (is_slot_of column.dtype) column.slots ≡ true
  pub sorted : is_flag_true column.flag column.slots ≡ true
