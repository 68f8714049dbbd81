-- What rules give over lists of words and of slots.
use Rattle.std.specs.Prelude.{◌+◌, ◌&&◌, not, ℕ, zero, suc, ℤ, List, [], ◌∷◌, map, Option, Some}
use Rattle.std.specs.Prelude.{None, if◌then◌else◌}
use Rattle.col_model.specs.Value.{Value, integer_slot, on_slot, on_slots}
use Rattle.col_buffer.specs.Validity.{valid_at}

-- a function of one integer at each word
abbrev pub word_slots_by : {T : Type 0} → (ℤ → Option ℤ) → (T → ℤ) → List T → List (Option Value)
word_slots_by f reading xs = map (λ x. integer_slot (f (reading x))) xs

-- a function of two integers at each place of two lists of words, as far as the shorter one
abbrev pub met_slots : {T U : Type 0} → (ℤ → ℤ → Option ℤ) → (T → ℤ) → (U → ℤ) →
    List T → List U → List (Option Value)
met_slots f reading read [] ys = []
met_slots f reading read (x ∷ xs) [] = []
met_slots f reading read (x ∷ xs) (y ∷ ys) =
    integer_slot (f (reading x) (read y)) ∷ met_slots f reading read xs ys

-- a function of one integer at each slot, null where the slot is
abbrev pub mapped : (ℤ → Option ℤ) → List (Option Value) → List (Option Value)
mapped f slots = map (on_slot f) slots

-- a function of two integers at each place of two lists of slots of one length, null where a slot
-- is
abbrev pub paired : (ℤ → ℤ → Option ℤ) →
    List (Option Value) → List (Option Value) → List (Option Value)
paired f [] ys = []
paired f (x ∷ xs) [] = []
paired f (x ∷ xs) (y ∷ ys) = on_slots f x y ∷ paired f xs ys

-- the first of so many places that is valid by the first words and not by the second
abbrev pub first_gap : Option (List ℕ) → ℕ → Option (List ℕ) → ℕ → ℕ → Option ℕ
first_gap source p words i zero = None
first_gap source p words i (suc n) =
    if valid_at source p && not (valid_at words i) then Some i
    else first_gap source (p + 1) words (i + 1) n

-- a row that is known, or else one that is so many rows further down
abbrev pub or_later : Option ℕ → ℕ → Option ℕ → Option ℕ
or_later (Some row) start next = Some row
or_later None start None = None
or_later None start (Some row) = Some (start + row)
