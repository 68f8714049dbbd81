-- Bytes and texts as slots, and what is computed of columns of them.
use Rattle.std.specs.Prelude.{◌++◌, ℕ, pos, Bool, true, false, List, length, map, Option, Some}
use Rattle.std.specs.Prelude.{None, Result, Ok, Err, slice_index_or}
use Rattle.std.specs.Option.{option_map}
use Rattle.std.specs.Str.{is_utf8}
use Rattle.col_types.specs.declared.error.PolarsError.{PolarsError}
use Rattle.col_types.specs.declared.error.PolarsError.TheVariants as errors
use Rattle.col_types.specs.declared.is_sorted.IsSorted.TheVariants.{Not}
use Rattle.col_model.specs.Value.{Bytes, Whole, Value, Flat}
use Rattle.col_types.specs.declared.data_type.DataType.{DataType}
use Rattle.col_model.specs.Column.{Column}
use Rattle.col_model.specs.Chunked.{Chunked}
use Rattle.col_model.specs.Broadcast.{broadcast_length, column_slots, operand_row}

-- a byte as a slot of a leaf
abbrev pub byte_slot : ℕ → Option Value
byte_slot byte = Some (Flat (Whole (pos byte)))

-- the byte that a leaf's slot is
abbrev pub slot_byte : Option Value → ℕ
slot_byte (Some (Flat (Whole (pos byte)))) = byte
slot_byte _ = 0

-- bytes as a value
abbrev pub bytes_value : List ℕ → Value
bytes_value bytes = Flat (Bytes bytes)

-- a run of a leaf's slots as a value
abbrev pub bytes_reading : List (Option Value) → Value
bytes_reading run = Flat (Bytes (map slot_byte run))

-- whether a value is bytes
abbrev pub is_bytes_value : Value → Bool
is_bytes_value (Flat (Bytes bytes)) = true
is_bytes_value _ = false

-- whether a value is a text: bytes in UTF-8
abbrev pub is_text_value : Value → Bool
is_text_value (Flat (Bytes bytes)) = is_utf8 bytes
is_text_value _ = false

-- what is read as bytes as slots, each of them valid
abbrev pub bytes_slots : {T : Type 0} → (T → List ℕ) → List T → List (Option Value)
bytes_slots bytes items = map (λ item. Some (bytes_value (bytes item))) items

-- what is read as bytes, where it is there, as slots: None is null
abbrev pub optional_slots : {T : Type 0} → (T → List ℕ) → List (Option T) → List (Option Value)
optional_slots bytes items = map (option_map (λ item. bytes_value (bytes item))) items

-- the bytes of two slots behind each other, null where one is
abbrev pub joined_bytes : Option Value → Option Value → Option Value
joined_bytes (Some (Flat (Bytes a))) (Some (Flat (Bytes b))) = Some (bytes_value (a ++ b))
joined_bytes _ _ = None

-- the slot that an operand has for an answer's row: one row stands for all
abbrev pub slot_for : List (Option Value) → ℕ → Option Value
slot_for slots row = slice_index_or slots (operand_row (length slots) row) None

-- so many rows of two columns, the right one's bytes behind the left one's
abbrev pub joined_slots : List (Option Value) → List (Option Value) → ℕ → List (Option Value)
joined_slots left right rows =
    column_slots (λ row. joined_bytes (slot_for left row) (slot_for right row)) rows

-- so many rows of the type with the left column's name; without a number of rows the lengths don't
-- fit each other
abbrev pub joined_by : DataType → Column → Column → Option ℕ → Result Column PolarsError
joined_by dtype left right None =
    Err (errors.Lengths (length left.slots) (length right.slots))
joined_by dtype left right (Some rows) = Ok (record {
  name = left.name;
  dtype = dtype;
  slots = joined_slots left.slots right.slots rows;
  flag = Not;
})

-- the bytes of two columns of the type behind each other, row by row, or why they are not
abbrev pub joined_column : DataType → Column → Column → Result Column PolarsError
joined_column dtype left right =
    joined_by dtype left right (broadcast_length (length left.slots) (length right.slots))

-- the slots with these bytes behind each valid one
abbrev pub extended_slots : List ℕ → List (Option Value) → List (Option Value)
extended_slots bytes slots = map (λ slot. joined_bytes slot (Some (bytes_value bytes))) slots

-- a column of the type with these bytes behind each valid slot
abbrev pub extended_column : DataType → List ℕ → Column → Column
extended_column dtype bytes column = record {
  name = column.name;
  dtype = dtype;
  slots = extended_slots bytes column.slots;
  flag = Not;
}

-- the same slots in the same chunks as a column of the type, with no claim on their order
abbrev pub retyped : DataType → Chunked → Chunked
retyped dtype chunked = record {
  column = record {
    name = chunked.column.name;
    dtype = dtype;
    slots = chunked.column.slots;
    flag = Not;
  };
  chunk_lengths = chunked.chunk_lengths;
}
