-- The slots that a list of chunks has, and slots that are moved.
use Rattle.std.specs.Prelude.{◌+◌, ◌-◌, ◌∷◌, ◌++◌, [], ℕ, ℤ, pos, negsuc, suc, min, List, Option}
use Rattle.std.specs.Prelude.{Some, None, length, map, take, drop, replicate, sum, nat_lt}
use Rattle.std.specs.Prelude.{if◌then◌else◌}
use Rattle.std.specs.List.{flat_map}
use Rattle.col_model.specs.Value.{Value, whole}
use Rattle.col_model.specs.Chunked.{Chunked}

-- the slots of chunks, one after another
abbrev pub joined : {C : Type 0} → (C → List (Option Value)) → List C → List (Option Value)
joined slots chunks = flat_map slots chunks

-- how many slots each chunk has
abbrev pub lengths_of : {C : Type 0} → (C → List (Option Value)) → List C → List ℕ
lengths_of slots chunks = map (λ chunk. length (slots chunk)) chunks

-- at which row each chunk starts, counted from one, and where the last ends
abbrev pub starts_of : {C : Type 0} → (C → List (Option Value)) → ℕ → List C → List ℕ
starts_of slots row [] = row ∷ []
starts_of slots row (chunk ∷ chunks) = row ∷ starts_of slots (row + length (slots chunk)) chunks

-- the slots from so many rows into a chunk on
abbrev pub rows_from :
    {C : Type 0} → (C → List (Option Value)) → ℕ → ℕ → List C → List (Option Value)
rows_from slots chunk skip chunks = drop skip (joined slots (drop chunk chunks))

-- the slots of a column from so many rows into a chunk on
abbrev pub rows_left : ℕ → ℕ → Chunked → List (Option Value)
rows_left chunk skip chunked =
    drop (sum (take chunk chunked.chunk_lengths) + skip) chunked.column.slots

-- a row, where it is past the end
abbrev pub row_past : ℕ → Option ℕ → Option ℕ
row_past rows None = None
row_past rows (Some row) = if nat_lt row rows then None else Some row

-- the slots so many further down, or up, as pieces of the list
abbrev pub moved_slots : ℤ → List (Option Value) → List (Option Value)
moved_slots (pos k) slots =
    let distance = min k (length slots) in
    replicate distance None ++ take (length slots - distance) slots
moved_slots (negsuc k) slots =
    let distance = min (suc k) (length slots) in
    take (length slots - distance) (drop distance slots) ++ replicate distance None

-- words as slots, each of them valid
abbrev pub word_slots : {T : Type 0} → (T → ℤ) → List T → List (Option Value)
word_slots reading words = map (λ word. Some (whole (reading word))) words
