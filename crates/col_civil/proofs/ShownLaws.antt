-- What slots show, one by one.
use Rattle.std.specs.Prelude.{◌≡◌, ◌+◌, ℕ, ℤ, suc, Bool, List, [], ◌∷◌, length, Option}
use Rattle.std.proofs.Common.{refl, ap}
use Rattle.col_model.specs.Value.{Value}
use Rattle.col_civil.specs.Civil.{shown_slots}

-- one for each slot
pub shown_length : (has : ℤ → Bool) (number : ℤ → ℤ) (row : ℕ) (slots : List (Option Value))
    → length (shown_slots has number row slots) ≡ length slots
shown_length has number row [] = refl
shown_length has number row (slot ∷ slots) = ap suc (shown_length has number (row + 1) slots)
