-- Laws of the slots at whose places a mask is true.
use Rattle.std.specs.Prelude.{◌≡◌, ◌≢◌, ◌+◌, ◌-◌, ◌≤◌, ◌<◌, ℕ, Bool, true, false, List, [], ◌∷◌, ◌++◌, Option, None, length, drop, take, replicate, get_or, if◌then◌else◌, nat_eq}
use Rattle.std.proofs.Common.{refl, ap, sym, ◌∙◌, arith, inl, inr}
use Rattle.std.proofs.lemmas.Bool.{cases_eq}
use Rattle.std.proofs.lemmas.Bool.Decides.{nat_tests}
use Rattle.std.proofs.lemmas.List.{drop_more, take_more, append_assoc, append-nil, drop-drop, drop_all, get_or-drop, length-drop, length-replicate}
use Rattle.col_model.specs.Value.{Value}
use Rattle.col_filter.specs.Filters.{is_true_slot, kept_slots, spread_slots}

-- what is kept is no longer
length-kept : (masks slots : List (Option Value)) → length (kept_slots masks slots) ≤ length slots
length-kept [] slots = omega arith
length-kept (m ∷ masks) [] = omega arith
length-kept (m ∷ masks) (x ∷ slots) = either (is_true_slot m) (length-kept masks slots)
  where
    either : (b : Bool) → length (kept_slots masks slots) ≤ length slots → length (if b then x ∷ kept_slots masks slots else kept_slots masks slots) ≤ length (x ∷ slots)
    either true h = omega (arith, h)
    either false h = omega (arith, h)

pub kept_short : (masks slots : List (Option Value)) (n : ℕ) → length slots < n → length (kept_slots masks slots) < n
kept_short masks slots n h = omega (arith, length-kept masks slots, h)

-- a mask for so many rows has so many
pub length_spread : (rows : ℕ) (slots : List (Option Value)) → (length slots ≢ rows → length slots ≡ 1) → length (spread_slots rows slots) ≡ rows
length_spread rows slots h = elim (cases_eq (length slots) 1) [
  | inl one ↦
      let yes : nat_eq (length slots) 1 ≡ true = grind (arith, nat_tests) in
      ap (λ (b : Bool). length (if b then replicate rows (get_or slots 0 None) else slots)) yes ∙ length-replicate rows (get_or slots 0 None)
  | inr more ↦
      let no : nat_eq (length slots) 1 ≡ false = grind (arith, nat_tests) in
      ap (λ (b : Bool). length (if b then replicate rows (get_or slots 0 None) else slots)) no
      ∙ elim (cases_eq (length slots) rows) [
        | inl e ↦ e
        | inr ne ↦ absurd (more (h ne))
      ]
]

-- nothing is kept of no slots
kept-none : (masks : List (Option Value)) → kept_slots masks [] ≡ []
kept-none [] = refl
kept-none (m ∷ masks) = refl

-- what is kept of slots behind others
pub kept_append : (masks xs ys : List (Option Value)) → kept_slots masks (xs ++ ys) ≡ kept_slots masks xs ++ kept_slots (drop (length xs) masks) ys
kept_append [] [] ys = refl
kept_append [] (x ∷ xs) ys = refl
kept_append (m ∷ masks) [] ys = refl
kept_append (m ∷ masks) (x ∷ xs) ys = either (is_true_slot m) (kept_append masks xs ys)
  where
    either : (b : Bool) → kept_slots masks (xs ++ ys) ≡ kept_slots masks xs ++ kept_slots (drop (length xs) masks) ys
        → (if b then x ∷ kept_slots masks (xs ++ ys) else kept_slots masks (xs ++ ys))
        ≡ (if b then x ∷ kept_slots masks xs else kept_slots masks xs) ++ kept_slots (drop (length xs) masks) ys
    either true e = ap (λ (z : List (Option Value)). x ∷ z) e
    either false e = e

-- the first of the rest
kept-read : (masks slots : List (Option Value)) (j i : ℕ) → j < length masks → i < length slots
    → kept_slots (drop j masks) (drop i slots) ≡ (if is_true_slot (get_or masks j None) then get_or slots i None ∷ kept_slots (drop (j + 1) masks) (drop (i + 1) slots) else kept_slots (drop (j + 1) masks) (drop (i + 1) slots))
kept-read masks slots j i h k =
    ap (λ (z : List (Option Value)). kept_slots z (drop i slots)) (drop_more masks j None h)
    ∙ ap (kept_slots (get_or masks j None ∷ drop (j + 1) masks)) (drop_more slots i None k)

-- a run with one slot more
run-more : (slots : List (Option Value)) (from row : ℕ) → from ≤ row → row < length slots
    → take (row + 1 - from) (drop from slots) ≡ take (row - from) (drop from slots) ++ get_or slots row None ∷ []
run-more slots from row order inside =
    let size : row + 1 - from ≡ (row - from) + 1 = omega arith in
    let at : from + (row - from) ≡ row = omega arith in
    ap (λ (n : ℕ). take n (drop from slots)) size
    ∙ take_more (drop from slots) (row - from) None (omega (arith, length-drop from slots))
    ∙ ap (λ (s : Option Value). take (row - from) (drop from slots) ++ s ∷ []) (get_or-drop from slots (row - from) None ∙ ap (λ (n : ℕ). get_or slots n None) at)

module _ (masks slots done whole : List (Option Value)) (start from row : ℕ) where
  -- a loop's step that keeps the slot
  run-grows : from ≤ row → start + row < length masks → row < length slots → true ≡ is_true_slot (get_or masks (start + row) None)
      → (done ++ take (row - from) (drop from slots)) ++ kept_slots (drop (start + row) masks) (drop row slots) ≡ whole
      → (done ++ take (row + 1 - from) (drop from slots)) ++ kept_slots (drop (start + (row + 1)) masks) (drop (row + 1) slots) ≡ whole
  run-grows order in_mask inside holds all =
      let rest : List (Option Value) = kept_slots (drop (start + row + 1) masks) (drop (row + 1) slots) in
      let run : List (Option Value) = take (row - from) (drop from slots) in
      let x : Option Value = get_or slots row None in
      let next : start + (row + 1) ≡ start + row + 1 = omega arith in
      ap (λ (n : ℕ). (done ++ take (row + 1 - from) (drop from slots)) ++ kept_slots (drop n masks) (drop (row + 1) slots)) next
      ∙ ap (λ (z : List (Option Value)). (done ++ z) ++ rest) (run-more slots from row order inside)
      ∙ ap (λ (z : List (Option Value)). z ++ rest) (sym (append_assoc done run (x ∷ [])))
      ∙ append_assoc (done ++ run) (x ∷ []) rest
      ∙ ap (λ (b : Bool). (done ++ run) ++ (if b then x ∷ rest else rest)) holds
      ∙ ap (λ (z : List (Option Value)). (done ++ run) ++ z) (sym (kept-read masks slots (start + row) row in_mask inside))
      ∙ all

  -- a loop's step that writes the run and leaves the slot out
  run-ends : start + row < length masks → row < length slots → false ≡ is_true_slot (get_or masks (start + row) None)
      → (done ++ take (row - from) (drop from slots)) ++ kept_slots (drop (start + row) masks) (drop row slots) ≡ whole
      → ((done ++ take (row - from) (drop from slots)) ++ take (row + 1 - (row + 1)) (drop (row + 1) slots)) ++ kept_slots (drop (start + (row + 1)) masks) (drop (row + 1) slots) ≡ whole
  run-ends in_mask inside holds all =
      let rest : List (Option Value) = kept_slots (drop (start + row + 1) masks) (drop (row + 1) slots) in
      let run : List (Option Value) = done ++ take (row - from) (drop from slots) in
      let x : Option Value = get_or slots row None in
      let next : start + (row + 1) ≡ start + row + 1 = omega arith in
      let none : row + 1 - (row + 1) ≡ 0 = omega arith in
      ap (λ (n : ℕ). (run ++ take (row + 1 - (row + 1)) (drop (row + 1) slots)) ++ kept_slots (drop n masks) (drop (row + 1) slots)) next
      ∙ ap (λ (n : ℕ). (run ++ take n (drop (row + 1) slots)) ++ rest) none
      ∙ ap (λ (z : List (Option Value)). z ++ rest) (append-nil run)
      ∙ ap (λ (b : Bool). run ++ (if b then x ∷ rest else rest)) holds
      ∙ ap (λ (z : List (Option Value)). run ++ z) (sym (kept-read masks slots (start + row) row in_mask inside))
      ∙ all

-- the same steps, as a loop leaves what is written and where the run begins
module _ (masks slots done new whole : List (Option Value)) (start from next row : ℕ) where
  pub step-grows : from ≤ row → start + row < length masks → row < length slots → true ≡ is_true_slot (get_or masks (start + row) None) → new ≡ done → next ≡ from
      → (done ++ take (row - from) (drop from slots)) ++ kept_slots (drop (start + row) masks) (drop row slots) ≡ whole
      → (new ++ take (row + 1 - next) (drop next slots)) ++ kept_slots (drop (start + (row + 1)) masks) (drop (row + 1) slots) ≡ whole
  step-grows order in_mask inside holds written at all =
      let rest : List (Option Value) = kept_slots (drop (start + (row + 1)) masks) (drop (row + 1) slots) in
      ap (λ (z : List (Option Value)). (z ++ take (row + 1 - next) (drop next slots)) ++ rest) written
      ∙ ap (λ (n : ℕ). (done ++ take (row + 1 - n) (drop n slots)) ++ rest) at
      ∙ run-grows masks slots done whole start from row order in_mask inside holds all

  pub step-ends : start + row < length masks → row < length slots → false ≡ is_true_slot (get_or masks (start + row) None)
      → new ≡ done ++ take (row - from) (drop from slots) → next ≡ row + 1
      → (done ++ take (row - from) (drop from slots)) ++ kept_slots (drop (start + row) masks) (drop row slots) ≡ whole
      → (new ++ take (row + 1 - next) (drop next slots)) ++ kept_slots (drop (start + (row + 1)) masks) (drop (row + 1) slots) ≡ whole
  step-ends in_mask inside holds written at all =
      let rest : List (Option Value) = kept_slots (drop (start + (row + 1)) masks) (drop (row + 1) slots) in
      ap (λ (z : List (Option Value)). (z ++ take (row + 1 - next) (drop next slots)) ++ rest) written
      ∙ ap (λ (n : ℕ). ((done ++ take (row - from) (drop from slots)) ++ take (row + 1 - n) (drop n slots)) ++ rest) at
      ∙ run-ends masks slots done whole start from row in_mask inside holds all

-- after the last row the run is all that is left
pub run-last : (masks slots done whole : List (Option Value)) (from row len : ℕ) → row ≡ len → length slots ≤ row
    → (done ++ take (row - from) (drop from slots)) ++ kept_slots masks (drop row slots) ≡ whole
    → done ++ take (len - from) (drop from slots) ≡ whole
run-last masks slots done whole from row len same past all =
    ap (λ (n : ℕ). done ++ take (n - from) (drop from slots)) (sym same)
    ∙ sym (append-nil (done ++ take (row - from) (drop from slots)))
    ∙ ap (λ (z : List (Option Value)). (done ++ take (row - from) (drop from slots)) ++ z) (sym (kept-none masks))
    ∙ ap (λ (z : List (Option Value)). (done ++ take (row - from) (drop from slots)) ++ kept_slots masks z) (sym (drop_all row slots past))
    ∙ all

-- a loop's step by a chunk
pub step-chunk : (masks done new whole xs rest rows : List (Option Value)) (start size : ℕ) → new ≡ done ++ kept_slots (drop start masks) xs → size ≡ length xs → rows ≡ xs ++ rest
    → done ++ kept_slots (drop start masks) rows ≡ whole
    → new ++ kept_slots (drop (start + size) masks) rest ≡ whole
step-chunk masks done new whole xs rest rows start size written long is all =
    ap (λ (z : List (Option Value)). z ++ kept_slots (drop (start + size) masks) rest) written
    ∙ append_assoc done (kept_slots (drop start masks) xs) (kept_slots (drop (start + size) masks) rest)
    ∙ ap (λ (n : ℕ). done ++ (kept_slots (drop start masks) xs ++ kept_slots (drop (start + n) masks) rest)) long
    ∙ ap (λ (z : List (Option Value)). done ++ (kept_slots (drop start masks) xs ++ kept_slots z rest)) (sym (drop-drop (length xs) start masks))
    ∙ ap (λ (z : List (Option Value)). done ++ z) (sym (kept_append (drop start masks) xs rest))
    ∙ ap (λ (z : List (Option Value)). done ++ kept_slots (drop start masks) z) (sym is)
    ∙ all

pub ruleset kept_laws = (kept_short, length_spread)
