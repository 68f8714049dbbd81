-- Slots that are moved, as pieces of the list and row by row.
use Rattle.std.specs.Prelude.{◌≡◌, ◌+◌, ◌-◌, ◌≤◌, ◌<◌, ◌-ℤ◌, ◌++◌, ℕ, suc, ℤ, pos, negsuc, min, Bool, List, length, take, drop, replicate, slice_index_or, Option, Some, None, if◌then◌else◌}
use Rattle.std.specs.List.{range_with_len}
use Rattle.std.specs.Option.{option_and_then}
use Rattle.std.proofs.Common.{ap, sym, ◌∙◌, arith, inl, inr, get_or, length-take, length-drop, length-append}
use Rattle.std.proofs.lemmas.Bool.{cases_lt, lt-ltb, le-ltb}
use Rattle.std.proofs.lemmas.Int.{ints}
use Rattle.std.proofs.lemmas.List.{same_lists, length-map, length-replicate, get_or-map, get_or-replicate, get_or-take, get_or-drop, get_or_append_left, get_or-append_right, get_or_default}
use Rattle.std.proofs.lemmas.List.FromFn.{length-range_with_len, get_or-range_with_len}
use Rattle.col_model.specs.Value.{Value}
use Rattle.col_model.specs.Broadcast.{column_slots, row_at, row_before}
use Rattle.col_chunk.specs.Chunks.{moved_slots}

module _ (slots : List (Option Value)) where
  -- the slot of a row, if there is one
  abbrev at_row : Option ℕ → Option Value
  at_row row = option_and_then (λ r. slice_index_or slots r None) row

  there : (r : ℕ) (d : Option Value) → r < length slots → get_or slots r d ≡ at_row (row_at (length slots) (pos r))
  there r d h =
      get_or_default slots r d None h
      ∙ sym (ap (λ (b : Bool). at_row (if b then Some r else None)) (lt-ltb r (length slots) h))

  nowhere : (r : ℕ) → length slots ≤ r → None ≡ at_row (row_at (length slots) (pos r))
  nowhere r h = sym (ap (λ (b : Bool). at_row (if b then Some r else None)) (le-ltb r (length slots) h))

  -- a row of the list that is made row by row
  row_slot : (periods : ℤ) (i : ℕ) (d : Option Value) → i < length slots
      → get_or (column_slots (λ row. at_row (row_before (length slots) periods row)) (length slots)) i d ≡ at_row (row_before (length slots) periods i)
  row_slot periods i d h =
      let inside : i < length (range_with_len 0 (length slots)) = omega (arith, length-range_with_len 0 (length slots)) in
      let is : 0 + i ≡ i = omega arith in
      get_or-map (λ row. at_row (row_before (length slots) periods row)) (range_with_len 0 (length slots)) i 0 d inside
      ∙ ap (λ (r : ℕ). at_row (row_before (length slots) periods r)) (get_or-range_with_len 0 (length slots) i 0 h ∙ is)

  pub long_rows : (f : ℕ → Option Value) → length (column_slots f (length slots)) ≡ length slots
  long_rows f = length-map (range_with_len 0 (length slots)) f ∙ length-range_with_len 0 (length slots)

  down : (k : ℕ) → moved_slots (pos k) slots ≡ column_slots (λ row. at_row (row_before (length slots) (pos k) row)) (length slots)
  down k =
      let n : ℕ = length slots in
      let m : ℕ = min k n in
      let nulls : List (Option Value) = replicate m None in
      let kept : List (Option Value) = take (n - m) slots in
      let count : length nulls ≡ m = length-replicate m None in
      let long : length (nulls ++ kept) ≡ n = omega (arith, length-append nulls kept, count, length-take (n - m) slots) in
      same_lists (nulls ++ kept) _ (long ∙ sym (long_rows _)) (λ i d less.
      let inside : i < n = omega (arith, long) in
      elim (cases_lt i m) [
        | inl low ↦
            let first : i < length nulls = omega (arith, count) in
            let e : pos i -ℤ pos k ≡ negsuc (k - i - 1) = omega (arith, ints) in
            get_or_append_left nulls kept d i first ∙ get_or-replicate m i None d low
            ∙ sym (ap (λ (z : ℤ). at_row (row_at n z)) e) ∙ sym (row_slot (pos k) i d inside)
        | inr high ↦
            let is : m ≡ k = omega arith in
            let left : i - m < n - m = omega arith in
            let e : pos i -ℤ pos k ≡ pos (i - m) = omega (arith, ints) in
            get_or-append_right nulls kept m i d count high ∙ get_or-take (n - m) slots (i - m) d left
            ∙ there (i - m) d (omega arith)
            ∙ sym (ap (λ (z : ℤ). at_row (row_at n z)) e) ∙ sym (row_slot (pos k) i d inside)
      ])

  up : (k : ℕ) → moved_slots (negsuc k) slots ≡ column_slots (λ row. at_row (row_before (length slots) (negsuc k) row)) (length slots)
  up k =
      let n : ℕ = length slots in
      let m : ℕ = min (suc k) n in
      let nulls : List (Option Value) = replicate m None in
      let kept : List (Option Value) = take (n - m) (drop m slots) in
      let part : length kept ≡ n - m = omega (arith, length-take (n - m) (drop m slots), length-drop m slots) in
      let count : length nulls ≡ m = length-replicate m None in
      let long : length (kept ++ nulls) ≡ n = omega (arith, length-append kept nulls, count, part) in
      same_lists (kept ++ nulls) _ (long ∙ sym (long_rows _)) (λ i d less.
      let inside : i < n = omega (arith, long) in
      let e : pos i -ℤ negsuc k ≡ pos (i + suc k) = omega (arith, ints) in
      elim (cases_lt i (n - m)) [
        | inl low ↦
            let first : i < length kept = omega (arith, part) in
            let is : m + i ≡ i + suc k = omega arith in
            get_or_append_left kept nulls d i first ∙ get_or-take (n - m) (drop m slots) i d low ∙ get_or-drop m slots i d
            ∙ ap (λ (r : ℕ). get_or slots r d) is ∙ there (i + suc k) d (omega arith)
            ∙ sym (ap (λ (z : ℤ). at_row (row_at n z)) e) ∙ sym (row_slot (negsuc k) i d inside)
        | inr high ↦
            let rest : i - (n - m) < m = omega arith in
            get_or-append_right kept nulls (n - m) i d part high ∙ get_or-replicate m (i - (n - m)) None d rest
            ∙ nowhere (i + suc k) (omega arith)
            ∙ sym (ap (λ (z : ℤ). at_row (row_at n z)) e) ∙ sym (row_slot (negsuc k) i d inside)
      ])

-- the pieces are the rows
pub moved-rows : (periods : ℤ) (slots : List (Option Value))
    → moved_slots periods slots ≡ column_slots (λ row. option_and_then (λ r. slice_index_or slots r None) (row_before (length slots) periods row)) (length slots)
moved-rows (pos k) slots = down slots k
moved-rows (negsuc k) slots = up slots k
