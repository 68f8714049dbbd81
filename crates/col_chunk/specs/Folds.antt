-- A run of words under one word of bits.
use Rattle.std.specs.Prelude.{◌+◌, ◌==◌, ℕ, ℤ, List, [], ◌∷◌, Option}
use Rattle.std.specs.Int.{bit_at}
use Rattle.col_model.specs.Value.{Value}
use Rattle.col_buffer.specs.Validity.{slot_if}

-- the slots of values whose bits are those of a word, from one bit on
abbrev pub run_slots : {T : Type 0} → (T → ℤ) → ℕ → ℕ → List T → List (Option Value)
run_slots reading word i [] = []
run_slots reading word i (x ∷ xs) =
    slot_if reading (bit_at word i == 1) x ∷ run_slots reading word (i + 1) xs
