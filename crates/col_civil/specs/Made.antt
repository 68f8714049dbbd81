-- What constructors make of civil values that come one by one.
use Rattle.std.specs.Prelude.{◌+◌, ◌++◌, ℕ, ℤ, pos, List, [], ◌∷◌, length, fold, Option, Some, None}
use Rattle.std.specs.Prelude.{Result, Ok, Err, if◌then◌else◌}
use Rattle.std.specs.Int.{w64}
use Rattle.jiff.specs.Types.{Date, DateTime, Time}
use Rattle.jiff.specs.Words.{civil_nanos, epoch_day, signed_nanos, time_nanos}
use Rattle.jiff_duration.specs.declared.signed_duration.SignedDuration.{SignedDuration}
use Rattle.col_types.specs.PolarsError.{seen_by}
use Rattle.col_types.specs.TimeUnit.{nanos_per_tick}
use Rattle.col_types.specs.declared.data_type.DataType.{DataType}
use Rattle.col_types.specs.declared.error.PolarsError.{PolarsError}
use Rattle.col_types.specs.declared.error.PolarsError.TheVariants.{Fit}
use Rattle.col_types.specs.declared.is_sorted.IsSorted.TheVariants.{Not}
use Rattle.col_types.specs.declared.time_unit.TimeUnit.{TimeUnit}
use Rattle.col_model.specs.Arithmetic.{Signed, floor_by, is_within, trunc_by, word_values}
use Rattle.col_model.specs.Chunked.{Chunked, in_one_chunk}
use Rattle.col_model.specs.ChunkCalls.{unless_too_long}
use Rattle.col_model.specs.Value.{Value, whole}

-- ---- the slot of an item

-- what an item becomes in a row: a slot, or a refusal
abbrev pub Reader : Type 0 → Type 0
Reader A = ℕ → A → Result (Option Value) PolarsError

-- an integer as a slot that is valid
abbrev pub valid_slot : ℤ → Option Value
valid_slot x = Some (whole x)

-- a tick, refused where it leaves 64 bits
abbrev pub fitting_tick : ℕ → ℤ → Result ℤ PolarsError
fitting_tick row tick = if is_within (word_values (Signed w64)) tick then Ok tick else Err (Fit row)

-- a date is the number of its day
abbrev pub date_slot : Reader Date
date_slot row date = Ok (valid_slot (epoch_day date))

-- a time is the nanoseconds since its day began
abbrev pub time_slot : Reader Time
time_slot row time = Ok (valid_slot (pos (time_nanos time)))

-- a moment is the last tick that isn't later
abbrev pub datetime_slot : TimeUnit → Reader DateTime
datetime_slot unit row moment =
    seen_by valid_slot (fitting_tick row (floor_by (civil_nanos moment) (nanos_per_tick unit)))

-- a length of time is its whole ticks
abbrev pub duration_slot : TimeUnit → Reader SignedDuration
duration_slot unit row span =
    seen_by valid_slot (fitting_tick row (trunc_by (signed_nanos span) (nanos_per_tick unit)))

-- the same where an item may be missing, which is null
abbrev pub or_null : {A : Type 0} → Reader A → Reader (Option A)
or_null read row None = Ok None
or_null read row (Some item) = read row item

-- ---- the column of items

-- slots and one more, of which there are fewer than 2^32
abbrev pub with_slot :
    List (Option Value) → Result (Option Value) PolarsError →
    Result (List (Option Value)) PolarsError
with_slot slots (Ok slot) = unless_too_long (length slots + 1) (slots ++ slot ∷ [])
with_slot slots (Err refusal) = Err refusal

-- the slots so far and that of one more item, which stands in the next row
abbrev pub with_item :
    {A : Type 0} → Reader A → Result (List (Option Value)) PolarsError → A →
    Result (List (Option Value)) PolarsError
with_item read (Ok slots) item = with_slot slots (read (length slots) item)
with_item read (Err refusal) item = Err refusal

-- the slots of items, or the first refusal
abbrev pub slots_of_items :
    {A : Type 0} → Reader A → List A → Result (List (Option Value)) PolarsError
slots_of_items read items = fold (with_item read) (Ok []) items

-- slots as a column in one chunk, with no claim on their order
abbrev pub made_column : List ℕ → DataType → List (Option Value) → Chunked
made_column name dtype slots =
    in_one_chunk (record { name = name; dtype = dtype; slots = slots; flag = Not })

-- the column of items, or the first refusal
abbrev pub column_of_items :
    {A : Type 0} → List ℕ → DataType → Reader A → List A → Result Chunked PolarsError
column_of_items name dtype read items =
    seen_by (made_column name dtype) (slots_of_items read items)
