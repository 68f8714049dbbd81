-- The line of a column.
use Rattle.std.specs.Prelude.{◌≡◌, ◌<◌, ℕ, zero, suc, ◌+◌, ◌^◌, map, Bool, ◌&&◌, List, [], ◌∷◌, ◌++◌, filter, ℤ, pos}
use Rattle.std.specs.Prelude.{true, false, Option, Some, None, option_and_then, option_map, nat_lt}
use Rattle.std.specs.Prelude.{nat_le, length, if◌then◌else◌, codes}
use Rattle.std.specs.Int.{w32, w64}
use Rattle.std.specs.Char.{is_ascii_graphic}
use Rattle.std.specs.List.{list_all, flat_map, slice_split}
use Rattle.std.specs.Result.{result_ok}
use Rattle.std.specs.Str.{bytes_eq}
use Rattle.col_types.specs.declared.data_type.DataType.{DataType, Boolean}
use Rattle.col_types.specs.declared.is_sorted.IsSorted.TheVariants.{Not}
use Rattle.col_model.specs.Arithmetic.{Interval, is_within, Signed, word_values}
use Rattle.col_model.specs.Chunked.{Chunked}
use Rattle.col_model.specs.Column.{Column, day_values}
use Rattle.col_model.specs.ColumnCalls.{column_from}
use Rattle.col_model.specs.Value.{Value, integer_slot, whole}
use Rattle.col_token.specs.Tokens.{is_blank, words_in}
use Rattle.col_text.specs.declared.slots.Front.{Front}
use Rattle.col_text.specs.declared.slots.Front.TheVariants as fronts
use Rattle.col_text.specs.Numbers.{integer_of, tick_of}
use Rattle.col_text.specs.Parts.{with_first, all_read}
use Rattle.col_text.specs.Types.{column_dtype}

-- the most bytes of a column's name
abbrev pub max_name_bytes : ℕ
max_name_bytes = 64

-- a name has 1 to 64 visible bytes
abbrev pub is_name : List ℕ → Bool
is_name text =
    nat_lt 0 (length text) && nat_le (length text) max_name_bytes && list_all is_ascii_graphic text

-- 0 for `false` and 1 for `true`
abbrev pub truth_named : List ℕ → Option ℤ
truth_named text =
    if bytes_eq text (codes "true") then Some (pos 1)
    else if bytes_eq text (codes "false") then Some (pos 0) else None

-- the value that a text names in a column of the type: the word of a truth value, or an integer
abbrev pub value_named : DataType → List ℕ → Option ℤ
value_named Boolean text = truth_named text
value_named _ text = integer_of text

-- `null`, or what names a value
abbrev pub slot_named : DataType → List ℕ → Option (Option ℤ)
slot_named dtype text =
    if bytes_eq text (codes "null") then Some None else option_map Some (value_named dtype text)

-- whether the token ends a chunk: a bar does
abbrev pub ends_chunk : List ℕ → Bool
ends_chunk text = bytes_eq text (codes "|")

-- whether a chunk has a token
abbrev pub is_filled : {T : Type 0} → List T → Bool
is_filled [] = false
is_filled (token ∷ tokens) = true

-- the tokens of each chunk; a chunk without a token is dropped
abbrev pub chunks_in : List (List ℕ) → List (List (List ℕ))
chunks_in tokens = filter is_filled (slice_split ends_chunk tokens)

-- the slots of each chunk, none where a token names no slot
abbrev pub chunks_of : DataType → List (List ℕ) → Option (List (List (Option ℤ)))
chunks_of dtype tokens = all_read (all_read (slot_named dtype)) (chunks_in tokens)

-- the slots of all chunks, one after the other
abbrev pub slots_in : List (List (Option ℤ)) → List (Option ℤ)
slots_in chunks = flat_map (λ chunk. chunk) chunks

-- a column in chunks of these lengths
abbrev pub in_chunks : List ℕ → Column → Chunked
in_chunks lengths column = record { column = column; chunk_lengths = lengths }

-- the column of the chunks' slots, in these chunks, where each slot is a value of the type; a
-- column without slots has no chunk
abbrev pub column_with : List ℕ → List (List ℕ) → DataType → Option Chunked
column_with name tokens dtype =
    option_and_then (λ chunks. option_map (in_chunks (map length chunks))
    (result_ok (column_from name dtype (slots_in chunks))))
    (chunks_of dtype tokens)

-- the column that stands behind `col`, with the zones handed in before: a name, a type, and slots
abbrev pub column_line : List (List ℕ) → List (List ℕ) → Option Chunked
column_line zones (name ∷ (dtype ∷ tokens)) =
    if is_name name then option_and_then (column_with name tokens) (column_dtype zones dtype)
    else None
column_line zones _ = None

-- ---- the same, where slots are read straight into the words of a type

-- the values of types that are built: the days of dates, the times of a day, all words of 64 bits
pub data TickRange : Type 0 where
  DateRange : TickRange
  TimeRange : TickRange
  WordRange : TickRange

-- the values themselves
abbrev pub interval_of : TickRange → Interval
interval_of DateRange = word_values (Signed w32)
interval_of TimeRange = day_values
interval_of WordRange = word_values (Signed w64)

-- whether a slot is null or lies in the interval
abbrev pub is_slot_within : Interval → Option ℤ → Bool
is_slot_within range None = true
is_slot_within range (Some x) = is_within range x

-- the slot, where it is null or lies in the interval
abbrev pub fitting_slot : Interval → Option ℤ → Option (Option ℤ)
fitting_slot range slot = if is_slot_within range slot then Some slot else None

-- `null`, or an integer
abbrev pub integer_slot_of : List ℕ → Option (Option ℤ)
integer_slot_of text =
    if bytes_eq text (codes "null") then Some None else option_map Some (integer_of text)

-- a slot that is null or lies in the interval
abbrev pub slot_in : Interval → List ℕ → Option (Option ℤ)
slot_in range text = option_and_then (fitting_slot range) (integer_slot_of text)

-- the same as a column has it
abbrev pub column_slot_in : TickRange → List ℕ → Option (Option Value)
column_slot_in range text = option_map integer_slot (slot_in (interval_of range) text)

-- the slot of a tick as a column has it, none where the tick isn't one of the values
abbrev pub tick_slot_in : TickRange → ℤ → Option (Option Value)
tick_slot_in range x = option_map integer_slot (fitting_slot (interval_of range) (Some x))

-- a word as a slot
abbrev pub word_slot : {W : Type 0} → (W → ℤ) → Option W → Option Value
word_slot reading word = option_map (λ x. whole (reading x)) word

-- the slots of all chunks by a reading of one token, none where it reads none
abbrev pub slots_by : {T : Type 0} → (List ℕ → Option T) → List (List ℕ) → Option (List T)
slots_by read [] = Some []
slots_by read (token ∷ tokens) =
    if ends_chunk token then slots_by read tokens
    else with_first (read token) (slots_by read tokens)

-- the slots of a line, none where a token is none or lies outside the range
abbrev pub slots_of_line : TickRange → List ℕ → Option (List (Option Value))
slots_of_line range line = slots_by (column_slot_in range) (words_in line)

-- how many slots each chunk of a line has
abbrev pub lengths_in : List (List ℕ) → List ℕ
lengths_in tokens = map length (chunks_in tokens)

-- the column of slots in chunks of these lengths, none where the slots are too many
abbrev pub short_column : List ℕ → DataType → List ℕ → List (Option Value) → Option Chunked
short_column name dtype lengths slots =
    if nat_lt (length slots) (2 ^ 32)
    then Some (in_chunks lengths (record
    { name = name; dtype = dtype; slots = slots; flag = Not }))
    else None

-- these slots, and then those that are read
abbrev pub with_front : {T : Type 0} → List T → Option (List T) → Option (List T)
with_front front (Some slots) = Some (front ++ slots)
with_front front None = None

-- a chunk of so many slots, dropped where it has none
abbrev pub closed : ℕ → List ℕ
closed zero = []
closed (suc n) = suc n ∷ []

-- how many slots each chunk has, where so many of the first are read already
abbrev pub lengths_from : ℕ → List (List ℕ) → List ℕ
lengths_from n [] = closed n
lengths_from n (token ∷ tokens) =
    if ends_chunk token then closed n ++ lengths_from 0 tokens else lengths_from (n + 1) tokens

-- the same by what the front of a line is, and the tokens behind it
abbrev pub lengths_behind : Front → ℕ → List (List ℕ) → List ℕ
lengths_behind fronts.Slot n tokens = lengths_from (n + 1) tokens
lengths_behind fronts.Bar n tokens = closed n ++ lengths_from 0 tokens
lengths_behind fronts.Blank n tokens = lengths_from n tokens

-- whether a token ends before this text: nothing or a blank comes
abbrev pub ends_token : List ℕ → Bool
ends_token [] = true
ends_token (byte ∷ bytes) = is_blank byte

-- the first token of the line is this integer, and the rest has the others
pub record IsFrontTick (line : List ℕ) (x : ℤ) (rest : List ℕ) : Type 0 where
  pub token : List ℕ
  pub words : words_in line ≡ token ∷ words_in rest
  pub value : Some x ≡ tick_of token
  pub shorter : length rest < length line
