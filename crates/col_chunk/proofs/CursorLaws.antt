-- Lists behind a part that is passed over.
use Rattle.std.specs.Prelude.{◌≡◌, ◌-◌, ◌≤◌, ℕ, zero, suc, List, [], ◌∷◌, ◌++◌, length, take, drop}
use Rattle.std.proofs.Common.{ap, ◌∙◌, arith}

pub drop-past : {X : Type 0} (piece rest : List X) (skip : ℕ) → length piece ≤ skip
    → drop skip (piece ++ rest) ≡ drop (skip - length piece) rest
drop-past [] rest skip h = let is : skip ≡ skip - 0 = omega arith in ap (λ (n : ℕ). drop n rest) is
drop-past (x ∷ piece) rest zero h = absurd (omega arith)
drop-past (x ∷ piece) rest (suc skip) h =
    let is : skip - length piece ≡ suc skip - suc (length piece) = omega arith in
    drop-past piece rest skip (omega arith) ∙ ap (λ (n : ℕ). drop n rest) is

pub take-past : {X : Type 0} (piece rest : List X) (left : ℕ) → length piece ≤ left
    → take left (piece ++ rest) ≡ piece ++ take (left - length piece) rest
take-past [] rest left h = let is : left ≡ left - 0 = omega arith in ap (λ (n : ℕ). take n rest) is
take-past (x ∷ piece) rest zero h = absurd (omega arith)
take-past (x ∷ piece) rest (suc left) h =
    let is : left - length piece ≡ suc left - suc (length piece) = omega arith in
    ap (λ (xs : List _). x ∷ xs) (take-past piece rest left (omega arith) ∙ ap (λ (n : ℕ). piece ++ take n rest) is)
