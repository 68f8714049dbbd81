-- Laws of tests for null.
use Rattle.std.specs.Prelude.{◌≡◌, ◌+◌, ◌<◌, ℕ, Bool, true, false, not, List, [], ◌∷◌, ◌++◌, Option, Some, None, is_none, is_some, if◌then◌else◌, length, drop, get_or}
use Rattle.std.proofs.Common.{ap, sym, ◌∙◌, arith}
use Rattle.std.proofs.lemmas.List.{append_assoc, drop_more, length-map}
use Rattle.col_model.specs.Value.{Value, whole}
use Rattle.col_boolean.specs.Bits.{truth}
use Rattle.col_filter.specs.Nulls.{tested_slots}

-- a slot is null where it isn't valid
test-of : (valid b : Bool) (slot : Option Value) → b ≡ is_some slot → (if valid then b else not b) ≡ (if valid then is_some else is_none) slot
test-of true b slot e = e
test-of false b None e = ap not e
test-of false b (Some x) e = ap not e

pub tested_short : (test : Option Value → Bool) (slots : List (Option Value)) (n : ℕ) → length slots < n → length (tested_slots test slots) < n
tested_short test slots n h = omega (arith, length-map slots (λ slot. Some (whole (truth (test slot)))), h)

-- a loop's step by a slot
pub step-slot : (slots done new all : List (Option Value)) (row : ℕ) (valid b r : Bool) → row < length slots → b ≡ is_some (get_or slots row None) → r ≡ (if valid then b else not b)
    → new ≡ done ++ Some (whole (truth r)) ∷ []
    → done ++ tested_slots (if valid then is_some else is_none) (drop row slots) ≡ all
    → new ++ tested_slots (if valid then is_some else is_none) (drop (row + 1) slots) ≡ all
step-slot slots done new all row valid b r less is passes written e =
    let rest : List (Option Value) = tested_slots (if valid then is_some else is_none) (drop (row + 1) slots) in
    ap (λ (z : List (Option Value)). z ++ rest) written
    ∙ append_assoc done (Some (whole (truth r)) ∷ []) rest
    ∙ ap (λ (t : Bool). done ++ Some (whole (truth t)) ∷ rest) (passes ∙ test-of valid b (get_or slots row None) is)
    ∙ ap (λ (z : List (Option Value)). done ++ tested_slots (if valid then is_some else is_none) z) (sym (drop_more slots row None less))
    ∙ e

pub ruleset test_laws = (tested_short)
