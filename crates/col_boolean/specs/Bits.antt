-- Truth values, and slots of them that are kept as bits, 64 to a word.
use Rattle.std.specs.Prelude.{◌+◌, ◌∷◌, [], zero, suc, ℕ, ℤ, pos, Bool, true, false, List, Option}
use Rattle.col_model.specs.Value.{Value}
use Rattle.col_buffer.specs.Validity.{slot_if, valid_at}

-- 1 for true and 0 for false
abbrev pub truth : Bool → ℤ
truth true = pos 1
truth false = pos 0

-- the slots of so many places from one on: a place is valid where its bit of validity is set, and
-- true where its bit of the values is
abbrev pub bit_slots : Option (List ℕ) → Option (List ℕ) → ℕ → ℕ → List (Option Value)
bit_slots values validity place zero = []
bit_slots values validity place (suc count) =
    slot_if truth (valid_at validity place) (valid_at values place)
    ∷ bit_slots values validity (place + 1) count
