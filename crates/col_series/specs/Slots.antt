-- Slots of ticks: as a column's slots, and which of them a column can have.
use Rattle.std.specs.Prelude.{ℕ, ℤ, Bool, true, List, map, Option, Some, None}
use Rattle.std.specs.Int.{w64}
use Rattle.col_types.specs.declared.data_type.DataType.{DataType}
use Rattle.col_types.specs.declared.is_sorted.IsSorted.TheVariants.{Not}
use Rattle.col_model.specs.Arithmetic.{is_within, Signed, word_values}
use Rattle.col_model.specs.Value.{integer_slot}
use Rattle.col_model.specs.Column.{Column, is_slot_of}

-- the column of ticks, with no claim on their order
abbrev pub ticks_column : List ℕ → DataType → List (Option ℤ) → Column
ticks_column name dtype ticks =
    record { name = name; dtype = dtype; slots = map integer_slot ticks; flag = Not }

-- whether the slot is null or a value of the type
abbrev pub is_fit : DataType → Option ℤ → Bool
is_fit dtype slot = is_slot_of dtype (integer_slot slot)

-- whether the slot is null or a value of 64 bits
abbrev pub is_tick_slot : Option ℤ → Bool
is_tick_slot None = true
is_tick_slot (Some x) = is_within (word_values (Signed w64)) x
