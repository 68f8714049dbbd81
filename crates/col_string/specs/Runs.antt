-- Slots that are runs of one shared buffer, between ends.
use Rattle.std.specs.Prelude.{◌≡◌, ◌+◌, ◌-◌, ◌≤◌, ◌<◌, ℕ, zero, suc, Bool, true, List, [], ◌∷◌}
use Rattle.std.specs.Prelude.{length, take, drop, slice_index, Option, Some, None}
use Rattle.std.specs.Prelude.{if◌then◌else◌}
use Rattle.std.specs.List.{list_all}
use Rattle.col_model.specs.Value.{Value}
use Rattle.col_buffer.specs.Validity.{valid_at}

-- what a function gives at so many places from one on
abbrev pub listed : {T : Type 0} → (ℕ → T) → ℕ → ℕ → List T
listed f i zero = []
listed f i (suc n) = f i ∷ listed f (i + 1) n

-- where the run of a place begins: where the one before it ends
abbrev pub start_of : List ℕ → ℕ → ℕ
start_of ends zero = 0
start_of ends (suc place) = slice_index ends place

-- the run of a place
abbrev pub run_at : {X : Type 0} → List X → List ℕ → ℕ → List X
run_at items ends place =
    take (slice_index ends place - start_of ends place) (drop (start_of ends place) items)

-- each run lies in a buffer of so many items
abbrev pub Ends : List ℕ → ℕ → Type 0
Ends ends room = (place : ℕ) → place < length ends →
    (start_of ends place ≤ slice_index ends place) × (slice_index ends place ≤ room)

-- the runs fill the items
pub record Fills {X : Type 0} (ends : List ℕ) (items : List X) : Type 0 where
  pub inside : Ends ends (length items)
  pub full : start_of ends (length ends) ≡ length items

-- the same where there are items
abbrev pub Writes : {X : Type 0} → List ℕ → Option (List X) → Type 0
Writes ends None = Unit {0}
Writes ends (Some items) = Fills ends items

-- the items, where there are some
abbrev pub items_or : {X : Type 0} → Option (List X) → List X
items_or None = []
items_or (Some items) = items

-- the slot of a place: its run as a value, if its bit is set
abbrev pub run_slot : {X : Type 0} → (List X → Value) → Option (List ℕ) → List X → List ℕ → ℕ →
    Option Value
run_slot reading words items ends place =
    if valid_at words place then Some (reading (run_at items ends place)) else None

-- so many slots from a place on
abbrev pub run_slots : {X : Type 0} → (List X → Value) → Option (List ℕ) → List X → List ℕ → ℕ →
    ℕ → List (Option Value)
run_slots reading words items ends offset len =
    listed (run_slot reading words items ends) offset len

-- whether a slot is null or a value that passes the test
abbrev pub passes : (Value → Bool) → Option Value → Bool
passes p None = true
passes p (Some value) = p value

-- each slot that is written passes; nothing where there are no items
abbrev pub Fit : {X : Type 0} → (Value → Bool) → (List X → Value) → Option (List ℕ) → List ℕ →
    Option (List X) → Type 0
Fit p reading words ends None = Unit {0}
Fit p reading words ends (Some items) =
    list_all (passes p) (run_slots reading words items ends 0 (length ends)) ≡ true
