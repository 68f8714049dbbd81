-- The column of a line, from the slots that are read straight into the words of its type.
use Rattle.std.proofs.Common.{◌≡◌, ◌<◌, Err, arith, ◌+◌, ◌^◌, ℕ, ℤ, Bool, true, false, List, [], ◌∷◌, length, map, take, Option, Some, None, refl, sym, ap, ◌∙◌, zero, suc}
use Rattle.std.specs.Prelude.{IfSome, option_map, option_and_then, nat_lt, if◌then◌else◌}
use Rattle.std.specs.List.{list_all, position_from}
use Rattle.std.specs.Result.{result_ok}
use Rattle.std.proofs.lemmas.Bool.{and_parts, and_from, false≢true, ltb-true}
use Rattle.std.proofs.lemmas.List.{length-map, take_all}
use Rattle.col_types.specs.declared.data_type.DataType.{DataType, Time}
use Rattle.col_types.specs.declared.is_sorted.IsSorted.TheVariants.{Not}
use Rattle.col_model.specs.Arithmetic.{Interval, is_within}
use Rattle.col_model.specs.Chunked.{Chunked}
use Rattle.col_model.specs.Column.{day_values, is_built_type, is_slot_of, values_of}
use Rattle.col_model.specs.ColumnCalls.{column_from, first_unfit, is_unfit}
use Rattle.col_model.specs.Value.{Value, integer_slot}
use Rattle.col_logical.specs.Logical.{retyped}
use Rattle.col_text.specs.Slots.{chunks_in, chunks_of, column_slot_in, column_with, ends_chunk, fitting_slot, in_chunks, integer_slot_of, interval_of, is_slot_within, lengths_in, short_column, slot_in, slot_named, slots_by, slots_in, TickRange, TimeRange}
use Rattle.col_text.specs.Parts.{with_first}
use Rattle.col_text.specs.Reading.{Reads}
use Rattle.col_text.specs.declared.line_error.LineError.{LineError}
use Rattle.col_text.specs.declared.line_error.LineError.TheVariants.{Bad, NoMemory}
use Rattle.col_text.proofs.ChunkLemmas.{slots_in-chunks_of, by_slots, slots_by-built}
use Rattle.col_text.proofs.LengthLemmas.{lengths-read}
use Rattle.col_text.proofs.SlotLemmas.{slots_by-all, slots_by-map}

-- all slots, where each of them lies in the interval
abbrev all_within : Interval → List (Option ℤ) → Option (List (Option ℤ))
all_within range slots = if list_all (is_slot_within range) slots then Some slots else None

first_within : (range : Interval) (slot : Option ℤ) (slots : List (Option ℤ)) (here rest : Bool)
    → is_slot_within range slot ≡ here → list_all (is_slot_within range) slots ≡ rest
    → with_first (fitting_slot range slot) (all_within range slots) ≡ all_within range (slot ∷ slots)
first_within range slot slots true true e f = rw (e, f) refl
first_within range slot slots true false e f = rw (e, f) refl
first_within range slot slots false rest e f = rw (e) refl

no_rest : (range : Interval) (slot : Option ℤ) (here : Bool) → is_slot_within range slot ≡ here
    → with_first {T = Option ℤ} (fitting_slot range slot) None ≡ None
no_rest range slot true e = rw e refl
no_rest range slot false e = rw e refl

within_by : (range : Interval) (slot : Option (Option ℤ)) (rest : Option (List (Option ℤ)))
    → with_first (option_and_then (fitting_slot range) slot) (option_and_then (all_within range) rest)
    ≡ option_and_then (all_within range) (with_first slot rest)
within_by range None rest = refl
within_by range (Some slot) None = no_rest range slot _ refl
within_by range (Some slot) (Some slots) = first_within range slot slots _ _ refl refl

within_end : (range : Interval) (end : Bool) (slot : Option (Option ℤ)) (rest read : Option (List (Option ℤ)))
    → read ≡ option_and_then (all_within range) rest
    → (if end then read else with_first (option_and_then (fitting_slot range) slot) read)
    ≡ option_and_then (all_within range) (if end then rest else with_first slot rest)
within_end range true slot rest read e = e
within_end range false slot rest read e =
    ap (with_first (option_and_then (fitting_slot range) slot)) e ∙ within_by range slot rest

-- reading slots of the interval is reading slots, where all lie in the interval
pub slots_by-within : (range : Interval) (tokens : List (List ℕ))
    → slots_by (slot_in range) tokens ≡ option_and_then (all_within range) (slots_by integer_slot_of tokens)
slots_by-within range [] = refl
slots_by-within range (token ∷ tokens) =
    within_end range (ends_chunk token) (integer_slot_of token) (slots_by integer_slot_of tokens) _
    (slots_by-within range tokens)

-- the same of slots as a column has them
column_slots-within : (range : TickRange) (tokens : List (List ℕ))
    → slots_by (column_slot_in range) tokens
    ≡ option_map (map integer_slot) (option_and_then (all_within (interval_of range)) (slots_by integer_slot_of tokens))
column_slots-within range tokens =
    slots_by-map integer_slot (slot_in (interval_of range)) tokens
    ∙ ap (option_map (map integer_slot)) (slots_by-within (interval_of range) tokens)

-- whether the slot is null or a value of the type
abbrev is_fit : DataType → Option ℤ → Bool
is_fit dtype slot = is_slot_of dtype (integer_slot slot)

-- where the type's values are the interval, a slot is one of the type where it lies there
slot_fits : (dtype : DataType) (range : Interval) (slot : Option ℤ) → values_of dtype ≡ Some range
    → is_slot_within range slot ≡ is_fit dtype slot
slot_fits dtype range None e = refl
slot_fits dtype range (Some x) e = rw e refl

all_fit : (dtype : DataType) (range : Interval) (slots : List (Option ℤ)) → values_of dtype ≡ Some range
    → list_all (is_slot_within range) slots ≡ list_all (is_fit dtype) slots
all_fit dtype range [] e = refl
all_fit dtype range (slot ∷ slots) e =
    rw (slot_fits dtype range slot e, all_fit dtype range slots e) refl

-- no slot is refused among those that all fit
fit_unrefused : (dtype : DataType) (row : ℕ) (slots : List (Option ℤ)) → list_all (is_fit dtype) slots ≡ true
    → position_from (is_unfit dtype) row slots ≡ None
fit_unrefused dtype row [] h = refl
fit_unrefused dtype row (slot ∷ slots) h =
    let parts = and_parts (is_fit dtype slot) (list_all (is_fit dtype) slots) h in
    rw parts.0 (fit_unrefused dtype (row + 1) slots parts.1)

-- and where none is refused, all fit
fit_here : (dtype : DataType) (row : ℕ) (slot : Option ℤ) (slots : List (Option ℤ)) (here : Bool)
    → is_fit dtype slot ≡ here → position_from (is_unfit dtype) row (slot ∷ slots) ≡ None
    → (is_fit dtype slot ≡ true) × (position_from (is_unfit dtype) (row + 1) slots ≡ None)
fit_here dtype row slot slots true e h = (e, rw e at h)
fit_here dtype row slot slots false e h =
    let found : Some row ≡ None = rw e at h in cc

unrefused_fit : (dtype : DataType) (row : ℕ) (slots : List (Option ℤ))
    → position_from (is_unfit dtype) row slots ≡ None → list_all (is_fit dtype) slots ≡ true
unrefused_fit dtype row [] h = refl
unrefused_fit dtype row (slot ∷ slots) h =
    let parts = fit_here dtype row slot slots _ refl h in
    and_from (is_fit dtype slot) (list_all (is_fit dtype) slots) parts.0 (unrefused_fit dtype (row + 1) slots parts.1)

take_fit : (dtype : DataType) (n : ℕ) (slots : List (Option ℤ)) → list_all (is_fit dtype) slots ≡ true
    → list_all (is_fit dtype) (take n slots) ≡ true
take_fit dtype zero slots h = refl
take_fit dtype (suc n) [] h = refl
take_fit dtype (suc n) (slot ∷ slots) h =
    let parts = and_parts (is_fit dtype slot) (list_all (is_fit dtype) slots) h in
    rw (parts.0, take_fit dtype n slots parts.1) refl

-- the column of slots in chunks of these lengths
abbrev column_in : List ℕ → DataType → List ℕ → List (Option ℤ) → Option Chunked
column_in name dtype lengths slots = option_map (in_chunks lengths) (result_ok (column_from name dtype slots))

column_by : (name : List ℕ) (dtype : DataType) (lengths : List ℕ) (slots : List (Option ℤ)) (short : Bool)
    → nat_lt (length slots) (2 ^ 32) ≡ short → list_all (is_fit dtype) slots ≡ true
    → column_in name dtype lengths slots ≡ short_column name dtype lengths (map integer_slot slots)
column_by name dtype lengths slots true e h =
    let long : nat_lt (length (map integer_slot slots)) (2 ^ 32) ≡ true = ap (λ n. nat_lt n (2 ^ 32)) (length-map slots integer_slot) ∙ e in
    rw (fit_unrefused dtype 0 (take (2 ^ 32) slots) (take_fit dtype (2 ^ 32) slots h), e, long) refl
column_by name dtype lengths slots false e h =
    let long : nat_lt (length (map integer_slot slots)) (2 ^ 32) ≡ false = ap (λ n. nat_lt n (2 ^ 32)) (length-map slots integer_slot) ∙ e in
    rw (fit_unrefused dtype 0 (take (2 ^ 32) slots) (take_fit dtype (2 ^ 32) slots h), e, long) refl

unfit_by : (name : List ℕ) (dtype : DataType) (lengths : List ℕ) (slots : List (Option ℤ)) (row : Option ℕ) (short : Bool)
    → first_unfit dtype slots ≡ row → nat_lt (length slots) (2 ^ 32) ≡ short
    → list_all (is_fit dtype) slots ≡ false
    → column_in name dtype lengths slots ≡ None
unfit_by name dtype lengths slots (Some row) short e f h = rw e refl
unfit_by name dtype lengths slots None false e f h = rw (e, f) refl
unfit_by name dtype lengths slots None true e f h =
    let less : length slots < 2 ^ 32 = ltb-true (length slots) (2 ^ 32) f in
    let all : take (2 ^ 32) slots ≡ slots = take_all (2 ^ 32) slots (omega arith) in
    absurd (false≢true (sym h ∙ unrefused_fit dtype 0 slots (sym (ap (position_from (is_unfit dtype) 0) all) ∙ e)))

values_all : (name : List ℕ) (dtype : DataType) (lengths : List ℕ) (range : Interval) (slots : List (Option ℤ)) (all : Bool)
    → values_of dtype ≡ Some range → list_all (is_slot_within range) slots ≡ all
    → column_in name dtype lengths slots
    ≡ option_and_then (short_column name dtype lengths) (option_map (map integer_slot) (all_within range slots))
values_all name dtype lengths range slots true e f =
    rw f (column_by name dtype lengths slots _ refl (sym (all_fit dtype range slots e) ∙ f))
values_all name dtype lengths range slots false e f =
    rw f (unfit_by name dtype lengths slots _ _ refl refl (sym (all_fit dtype range slots e) ∙ f))

values_by : (name : List ℕ) (dtype : DataType) (lengths : List ℕ) (range : Interval) (slots : Option (List (Option ℤ)))
    → values_of dtype ≡ Some range
    → option_and_then (column_in name dtype lengths) slots
    ≡ option_and_then (short_column name dtype lengths) (option_map (map integer_slot) (option_and_then (all_within range) slots))
values_by name dtype lengths range None e = refl
values_by name dtype lengths range (Some slots) e = values_all name dtype lengths range slots _ e refl

by_lengths : (name : List ℕ) (dtype : DataType) (lengths : List ℕ) (chunks : Option (List (List (Option ℤ))))
    → IfSome chunks (λ chunks. map length chunks ≡ lengths)
    → option_and_then (λ chunks. column_in name dtype (map length chunks) (slots_in chunks)) chunks
    ≡ option_and_then (λ chunks. column_in name dtype lengths (slots_in chunks)) chunks
by_lengths name dtype lengths None e = refl
by_lengths name dtype lengths (Some chunks) e = ap (λ lengths. column_in name dtype lengths (slots_in chunks)) e

-- the column of a line, by its integers
column_slots : (name : List ℕ) (dtype : DataType) (tokens : List (List ℕ)) → is_built_type dtype ≡ true
    → column_with name tokens dtype
    ≡ option_and_then (column_in name dtype (lengths_in tokens)) (slots_by integer_slot_of tokens)
column_slots name dtype tokens built =
    by_lengths name dtype (lengths_in tokens) (chunks_of dtype tokens) (lengths-read (slot_named dtype) (chunks_in tokens))
    ∙ by_slots (column_in name dtype (lengths_in tokens)) _ _
    (slots_in-chunks_of dtype tokens ∙ slots_by-built dtype tokens built)

-- the column of a line, from the slots that are read in the values of its type
column_with-read : (name : List ℕ) (dtype : DataType) (range : TickRange) (tokens : List (List ℕ))
    → is_built_type dtype ≡ true → values_of dtype ≡ Some (interval_of range)
    → column_with name tokens dtype
    ≡ option_and_then (short_column name dtype (lengths_in tokens)) (slots_by (column_slot_in range) tokens)
column_with-read name dtype range tokens built e =
    column_slots name dtype tokens built
    ∙ values_by name dtype (lengths_in tokens) (interval_of range) (slots_by integer_slot_of tokens) e
    ∙ ap (option_and_then (short_column name dtype (lengths_in tokens))) (sym (column_slots-within range tokens))

day_by : (x : ℤ) (within : Bool) → is_within day_values x ≡ within
    → IfSome (option_map integer_slot (fitting_slot day_values (Some x))) (λ slot. is_slot_of Time slot ≡ true)
day_by x true e = rw e e
day_by x false e = rw e tt

day_slot : (slot : Option (Option ℤ))
    → IfSome (option_map integer_slot (option_and_then (fitting_slot day_values) slot)) (λ slot. is_slot_of Time slot ≡ true)
day_slot None = tt
day_slot (Some None) = refl
day_slot (Some (Some x)) = day_by x _ refl

-- the times that are read lie in the day
pub times-in_day : (tokens : List (List ℕ))
    → IfSome (slots_by (column_slot_in TimeRange) tokens) (λ slots. list_all (is_slot_of Time) slots ≡ true)
times-in_day tokens = slots_by-all (is_slot_of Time) (column_slot_in TimeRange) (λ token. day_slot (integer_slot_of token)) tokens

-- ---- the column of words

short_retyped : (name : List ℕ) (dtype word : DataType) (lengths : List ℕ) (slots : List (Option Value)) (words : Chunked) (short : Bool)
    → nat_lt (length slots) (2 ^ 32) ≡ short → short_column name word lengths slots ≡ Some words
    → short_column name dtype lengths slots ≡ Some (retyped dtype words)
short_retyped name dtype word lengths slots words true e h =
    let is : Some (in_chunks lengths (record { name = name; dtype = word; slots = slots; flag = Not })) ≡ Some words = rw e at h in
    rw e (ap (option_map (retyped dtype)) is)
short_retyped name dtype word lengths slots words false e h =
    let none : None ≡ Some words = rw e at h in cc

short_none : (name : List ℕ) (dtype word : DataType) (lengths : List ℕ) (slots : List (Option Value)) (short : Bool)
    → nat_lt (length slots) (2 ^ 32) ≡ short → short_column name word lengths slots ≡ None → short_column name dtype lengths slots ≡ None
short_none name dtype word lengths slots true e h =
    let none : Some (in_chunks lengths (record { name = name; dtype = word; slots = slots; flag = Not })) ≡ None = rw e at h in cc
short_none name dtype word lengths slots false e h = rw e refl

read_retyped : (name : List ℕ) (dtype word : DataType) (lengths : List ℕ) (slots : Option (List (Option Value))) (words : Chunked)
    → option_and_then (short_column name word lengths) slots ≡ Some words
    → option_and_then (short_column name dtype lengths) slots ≡ Some (retyped dtype words)
read_retyped name dtype word lengths None words h = cc
read_retyped name dtype word lengths (Some slots) words h = short_retyped name dtype word lengths slots words _ refl h

read_none : (name : List ℕ) (dtype word : DataType) (lengths : List ℕ) (slots : Option (List (Option Value)))
    → option_and_then (short_column name word lengths) slots ≡ None → option_and_then (short_column name dtype lengths) slots ≡ None
read_none name dtype word lengths None h = refl
read_none name dtype word lengths (Some slots) h = short_none name dtype word lengths slots _ refl h

-- words that are read are those of the column
pub column_reads : (name : List ℕ) (dtype word : DataType) (range : TickRange) (tokens : List (List ℕ)) (words : Chunked)
    → is_built_type dtype ≡ true → values_of dtype ≡ Some (interval_of range)
    → option_and_then (short_column name word (lengths_in tokens)) (slots_by (column_slot_in range) tokens) ≡ Some words
    → column_with name tokens dtype ≡ Some (retyped dtype words)
column_reads name dtype word range tokens words built e h =
    column_with-read name dtype range tokens built e
    ∙ read_retyped name dtype word (lengths_in tokens) (slots_by (column_slot_in range) tokens) words h

-- words that aren't read make no column
pub column_stops : (name : List ℕ) (dtype word : DataType) (range : TickRange) (tokens : List (List ℕ)) (error : LineError)
    → is_built_type dtype ≡ true → values_of dtype ≡ Some (interval_of range)
    → Reads {T = Chunked} (Err error) (option_and_then (short_column name word (lengths_in tokens)) (slots_by (column_slot_in range) tokens))
    → Reads {T = Chunked} (Err error) (column_with name tokens dtype)
column_stops name dtype word range tokens Bad built e h =
    column_with-read name dtype range tokens built e
    ∙ read_none name dtype word (lengths_in tokens) (slots_by (column_slot_in range) tokens) h
column_stops name dtype word range tokens NoMemory built e h = tt

short_day : (name : List ℕ) (word : DataType) (lengths : List ℕ) (slots : List (Option Value)) (words : Chunked) (short : Bool)
    → nat_lt (length slots) (2 ^ 32) ≡ short → list_all (is_slot_of Time) slots ≡ true
    → short_column name word lengths slots ≡ Some words → list_all (is_slot_of Time) words.column.slots ≡ true
short_day name word lengths slots words true e day h =
    let is : Some (in_chunks lengths (record { name = name; dtype = word; slots = slots; flag = Not })) ≡ Some words = rw e at h in
    let same : in_chunks lengths (record { name = name; dtype = word; slots = slots; flag = Not }) ≡ words = cc in
    ap (λ (chunked : Chunked). list_all (is_slot_of Time) chunked.column.slots) (sym same) ∙ day
short_day name word lengths slots words false e day h =
    let none : None ≡ Some words = rw e at h in cc

read_day : (name : List ℕ) (word : DataType) (lengths : List ℕ) (slots : Option (List (Option Value))) (words : Chunked)
    → IfSome slots (λ slots. list_all (is_slot_of Time) slots ≡ true)
    → option_and_then (short_column name word lengths) slots ≡ Some words → list_all (is_slot_of Time) words.column.slots ≡ true
read_day name word lengths None words day h = cc
read_day name word lengths (Some slots) words day h = short_day name word lengths slots words _ refl day h

-- the words of times lie in the day
pub times_lie : (name : List ℕ) (word : DataType) (tokens : List (List ℕ)) (words : Chunked)
    → option_and_then (short_column name word (lengths_in tokens)) (slots_by (column_slot_in TimeRange) tokens) ≡ Some words
    → list_all (is_slot_of Time) words.column.slots ≡ true
times_lie name word tokens words h =
    read_day name word (lengths_in tokens) (slots_by (column_slot_in TimeRange) tokens) words (times-in_day tokens) h
