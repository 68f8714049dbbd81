-- Slots that are kept as plain values and bits of validity, 64 to a word.
use Rattle.std.specs.Prelude.{◌≡◌, ◌+◌, ◌*◌, ◌/◌, ◌%◌, ◌≤◌, ◌<◌, ◌==◌, ◌≢◌, ℕ, zero, suc, ℤ, Bool}
use Rattle.std.specs.Prelude.{true, List, [], ◌∷◌, Option, Some, None, slice_index, length}
use Rattle.std.specs.Prelude.{if◌then◌else◌}
use Rattle.std.specs.Int.{bit_at}
use Rattle.col_model.specs.Value.{Value, whole}

-- whether a place is valid: its bit is set; without words each place is valid
abbrev pub valid_at : Option (List ℕ) → ℕ → Bool
valid_at None i = true
valid_at (Some words) i = bit_at (slice_index words (i / 64)) (i % 64) == 1

-- the words have a bit for each of the first n places
abbrev pub Reaches : Option (List ℕ) → ℕ → Type 0
Reaches None n = Unit {0}
Reaches (Some words) n = n ≤ 64 * length words

-- how many of n places from one on are valid
abbrev pub valid_count : Option (List ℕ) → ℕ → ℕ → ℕ
valid_count words i zero = 0
valid_count words i (suc n) = (if valid_at words i then 1 else 0) + valid_count words (i + 1) n

-- the slot of a value, null where it isn't valid
abbrev pub slot_if : {T : Type 0} → (T → ℤ) → Bool → T → Option Value
slot_if reading valid x = if valid then Some (whole (reading x)) else None

-- the slots of values whose bits are those from a place on
abbrev pub masked : {T : Type 0} → (T → ℤ) → Option (List ℕ) → ℕ → List T → List (Option Value)
masked reading words i [] = []
masked reading words i (x ∷ xs) =
    slot_if reading (valid_at words i) x ∷ masked reading words (i + 1) xs

-- ---- what writes leave

-- the bit behind those that count is written, and those stay
pub record AddsBit (old new : List ℕ) (place : ℕ) (valid : Bool) : Type 0 where
  pub reach : place + 1 ≤ 64 * length new
  pub here : valid_at (Some new) place ≡ valid
  pub others : (j : ℕ) → j < place → valid_at (Some new) j ≡ valid_at (Some old) j

-- the bits of a word are written behind those that count, and those stay
pub record AddsWord (old new : List ℕ) (place word : ℕ) : Type 0 where
  pub reach : place + 64 ≤ 64 * length new
  pub here : (j : ℕ) → j < 64 → valid_at (Some new) (place + j) ≡ (bit_at word j == 1)
  pub others : (j : ℕ) → j < place → valid_at (Some new) j ≡ valid_at (Some old) j

-- the bit of a place is written, and each other bit stays
pub record SetsBit (old new : List ℕ) (place : ℕ) (valid : Bool) : Type 0 where
  pub long : length new ≡ length old
  pub here : valid_at (Some new) place ≡ valid
  pub others : (j : ℕ) → j ≢ place → valid_at (Some new) j ≡ valid_at (Some old) j

-- among the first places one is written, and each other one stays
pub record SetsValid (old new : Option (List ℕ)) (count place : ℕ) (valid : Bool) : Type 0 where
  pub reach : Reaches new count
  pub here : valid_at new place ≡ valid
  pub others : (j : ℕ) → j ≢ place → j < count → valid_at new j ≡ valid_at old j

-- the place behind those that count is written, and those stay
pub record AddsValid (old new : Option (List ℕ)) (place : ℕ) (valid : Bool) : Type 0 where
  pub reach : Reaches new (place + 1)
  pub here : valid_at new place ≡ valid
  pub others : (j : ℕ) → j < place → valid_at new j ≡ valid_at old j

-- so many places of others, from a start on, are written behind those that count, and those stay
pub record AddsRange (old new : Option (List ℕ)) (place : ℕ) (from : Option (List ℕ))
    (start len : ℕ) : Type 0 where
  pub reach : Reaches new (place + len)
  pub here : (k : ℕ) → k < len → valid_at new (place + k) ≡ valid_at from (start + k)
  pub others : (j : ℕ) → j < place → valid_at new j ≡ valid_at old j
