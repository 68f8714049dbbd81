-- What the calls of a column that lies in chunks answer, want of memory aside. Each is a function
-- of slots, the same for every type.
use Rattle.std.specs.Prelude.{◌≡◌, ◌+◌, ◌-◌, ◌^◌, ◌+ℤ◌, ℕ, ℤ, pos, negsuc, min, Bool, false, not}
use Rattle.std.specs.Prelude.{List, [], ◌∷◌, ◌++◌, length, map, take, drop, replicate, reverse}
use Rattle.std.specs.Prelude.{filter, count_by, sum, slice_index, slice_index_or, slice_set}
use Rattle.std.specs.Prelude.{nat_lt, nat_eq, Option, Some, None, is_some, is_none, Result, Ok}
use Rattle.std.specs.Prelude.{Err, if◌then◌else◌}
use Rattle.std.specs.List.{find}
use Rattle.std.specs.Option.{option_map, option_and_then}
use Rattle.col_types.specs.IsSorted.{reversed}
use Rattle.col_types.specs.declared.data_type.DataType.{DataType}
use Rattle.col_types.specs.declared.is_sorted.IsSorted.{IsSorted}
use Rattle.col_types.specs.declared.is_sorted.IsSorted.TheVariants.{Not}
use Rattle.col_types.specs.declared.error.PolarsError.{PolarsError}
use Rattle.col_types.specs.declared.error.PolarsError.TheVariants as errors
use Rattle.col_types.specs.declared.error.PolarsError.TheVariants.{NoMemory}
use Rattle.col_model.specs.Value.{Value, Flat, Whole}
use Rattle.col_model.specs.Column.{Column}
use Rattle.col_model.specs.Chunked.{Chunked, in_one_chunk}

-- what has so many rows, refused where they are too many
abbrev pub unless_too_long : {T : Type 0} → ℕ → T → Result T PolarsError
unless_too_long rows x = if nat_lt rows (2 ^ 32) then Ok x else Err (errors.TooLong rows)

-- the answer behind a refusal that is tested first
abbrev pub after : {T : Type 0} → Option PolarsError → Result T PolarsError → Result T PolarsError
after None answer = answer
after (Some refusal) answer = Err refusal

-- ---- constructors

-- a column of these slots in one chunk
abbrev pub new_column : List ℕ → DataType → List (Option Value) → Result Chunked PolarsError
new_column name dtype slots =
    unless_too_long (length slots)
    (in_one_chunk (record { name = name; dtype = dtype; slots = slots; flag = Not }))

-- a column of so many nulls in one chunk
abbrev pub null_column : List ℕ → DataType → ℕ → Result Chunked PolarsError
null_column name dtype rows =
    unless_too_long rows
    (in_one_chunk (record { name = name; dtype = dtype; slots = replicate rows None; flag = Not }))

-- ---- readers

-- how many slots are null
abbrev pub null_count : List (Option Value) → ℕ
null_count slots = count_by is_none slots

-- the slots of one chunk
abbrev pub chunk_slots : ℕ → Chunked → List (Option Value)
chunk_slots index chunked =
    take (slice_index chunked.chunk_lengths index)
    (drop (sum (take index chunked.chunk_lengths)) chunked.column.slots)

-- the column with another name
abbrev pub renamed : List ℕ → Chunked → Chunked
renamed name chunked = record chunked { column = record chunked.column { name = name } }

-- ---- rows behind others

-- the claim on order that is left behind so many more rows
abbrev pub flag_behind : ℕ → IsSorted → IsSorted
flag_behind rows flag = if nat_eq rows 0 then flag else Not

-- the rows of the other column behind those of this one
abbrev pub with_rows_of : Column → Column → Column
with_rows_of this other =
    record this
    { slots = this.slots ++ other.slots; flag = flag_behind (length other.slots) this.flag }

-- the same in the chunks of both
abbrev pub appended : Chunked → Chunked → Result Chunked PolarsError
appended this other =
    unless_too_long (length this.column.slots + length other.column.slots)
    (record {
      column = with_rows_of this.column other.column;
      chunk_lengths = this.chunk_lengths ++ other.chunk_lengths;
    })

-- the lengths of chunks with so many rows more in the last one
abbrev pub longer_last : ℕ → List ℕ → List ℕ
longer_last more [] = more ∷ []
longer_last more (rows ∷ []) = (rows + more) ∷ []
longer_last more (rows ∷ (next ∷ rest)) = rows ∷ longer_last more (next ∷ rest)

-- the rows of both, those of the other column in the last chunk
abbrev pub extended : Chunked → Chunked → Result Chunked PolarsError
extended this other =
    unless_too_long (length this.column.slots + length other.column.slots)
    (record {
      column = with_rows_of this.column other.column;
      chunk_lengths = longer_last (length other.column.slots) this.chunk_lengths;
    })

-- As `Becomes` for a call that takes a value over: on a refusal it hands the value back as it was.
abbrev pub TakesOver :
    {T : Type 0} → Result (Unit {0}) (T × PolarsError) → T → T → T → Result T PolarsError → Type 0
TakesOver (Ok _) old new other expected = expected ≡ Ok new
TakesOver (Err (back, NoMemory)) old new other expected = (new ≡ old) × (back ≡ other)
TakesOver (Err (back, refusal)) old new other expected =
    (expected ≡ Err refusal) × (new ≡ old) × (back ≡ other)

-- ---- some of the rows

-- an offset as a place: from the end where it is negative
abbrev pub place_of : ℤ → ℕ → ℤ
place_of (pos offset) rows = pos offset
place_of (negsuc offset) rows = pos rows +ℤ negsuc offset

-- a place cut to the rows
abbrev pub row_of : ℕ → ℤ → ℕ
row_of rows (pos place) = min place rows
row_of rows (negsuc place) = 0

-- the rows from one to another
abbrev pub rows_between : ℕ → ℕ → Column → Column
rows_between from to column = record column { slots = take (to - from) (drop from column.slots) }

-- so many rows from an offset on, cut to the column
abbrev pub sliced : ℤ → ℕ → Column → Column
sliced offset rows column =
    let place = place_of offset (length column.slots) in
    rows_between (row_of (length column.slots) place)
    (row_of (length column.slots) (place +ℤ pos rows)) column

-- the rows before an offset and those from it on
abbrev pub split : ℤ → Column → Column × Column
split offset column =
    let row = row_of (length column.slots) (place_of offset (length column.slots)) in
    (rows_between 0 row column, rows_between row (length column.slots) column)

-- the columns of two columns in chunks
abbrev pub columns_of : Chunked × Chunked → Column × Column
columns_of pair = (pair.0.column, pair.1.column)

-- the valid rows
abbrev pub without_nulls : Column → Column
without_nulls column = record column { slots = filter is_some column.slots }

-- ---- rows by their index

-- the row that an index names, none for a null one
abbrev pub named_row : Option Value → Option ℕ
named_row (Some (Flat (Whole (pos row)))) = Some row
named_row _ = None

-- the slot of the row that an index names, null for a null index
abbrev pub slot_named : List (Option Value) → Option Value → Option Value
slot_named slots index = option_and_then (λ row. slice_index_or slots row None) (named_row index)

-- whether an index names a row past the end
abbrev pub is_outside : ℕ → Option Value → Bool
is_outside rows (Some (Flat (Whole (pos row)))) = not (nat_lt row rows)
is_outside rows _ = false

-- the first index past the end
abbrev pub indices_refusal : ℕ → List (Option Value) → Option PolarsError
indices_refusal rows indices =
    option_map (λ row. errors.OutOfBounds row rows)
    (option_and_then named_row (find (is_outside rows) indices))

-- the rows that indices name
abbrev pub rows_named : List (Option Value) → Column → Column
rows_named indices column =
    record column { slots = map (slot_named column.slots) indices; flag = Not }

-- the rows that indices name, or the first index past the end
abbrev pub taken : List (Option Value) → Column → Result Column PolarsError
taken indices column =
    after (indices_refusal (length column.slots) indices)
    (unless_too_long (length indices) (rows_named indices column))

-- ---- rows in another order

-- the rows from the last to the first
abbrev pub turned : Column → Column
turned column = record column { slots = reverse column.slots; flag = reversed column.flag }

-- the slot of a row so many times
abbrev pub repeated : ℕ → ℕ → Column → Result Column PolarsError
repeated index rows column =
    if nat_lt index (length column.slots)
    then unless_too_long rows
    (record column { slots = replicate rows (slice_index_or column.slots index None); flag = Not })
    else Err (errors.OutOfBounds index (length column.slots))

-- ---- writes

-- the column with the slot of a row written
abbrev pub slot_set : ℕ → Option Value → Chunked → Chunked
slot_set index slot chunked =
    record chunked {
      column =
          record chunked.column { slots = slice_set chunked.column.slots index slot; flag = Not };
    }
