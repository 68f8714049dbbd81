-- Where chunks start, and the chunk that has a row.
use Rattle.std.specs.Prelude.{◌≡◌, ◌+◌, ◌-◌, ◌≤◌, ◌<◌, ℕ, zero, suc, List, [], ◌∷◌, ◌++◌, length, take, drop, sum, Option, Some, None}
use Rattle.std.specs.List.{flat_map}
use Rattle.std.specs.Option.{option_and_then}
use Rattle.std.proofs.Common.{subst, ap, sym, ◌∙◌, refl, arith, get_or}
use Rattle.std.proofs.lemmas.List.{take_all, length-append, get_or_append_left, get_or-append-add, get_or_past}
use Rattle.std.proofs.lemmas.List.Sums.{sum_by-cons}
use Rattle.std.proofs.Math.Seq.{drop-append-add}
use Rattle.col_model.specs.Value.{Value}
use Rattle.col_model.specs.Chunked.{Chunked}
use Rattle.col_chunk.specs.Chunks.{lengths_of, rows_from, rows_left, starts_of}

module _ {C : Type 0} (slots : C → List (Option Value)) where
  pub length-starts : (n : ℕ) (chunks : List C) → length (starts_of slots n chunks) ≡ suc (length chunks)
  length-starts n [] = refl
  length-starts n (c ∷ cs) = ap suc (length-starts (n + length (slots c)) cs)

  -- a start is the number of slots before it
  pub start-at : (n i : ℕ) (chunks : List C) → i ≤ length chunks
      → get_or (starts_of slots n chunks) i 0 ≡ n + length (flat_map slots (take i chunks))
  start-at n zero [] h = omega arith
  start-at n zero (c ∷ cs) h = omega arith
  start-at n (suc i) [] h = absurd (omega arith)
  start-at n (suc i) (c ∷ cs) h =
      let is : n + length (slots c) + length (flat_map slots (take i cs)) ≡ n + length (slots c ++ flat_map slots (take i cs))
      = omega (arith, length-append (slots c) (flat_map slots (take i cs))) in
      start-at (n + length (slots c)) i cs (omega arith) ∙ is

  -- the last one is the number of slots
  pub last-start : (starts : List ℕ) (chunks : List C) → starts ≡ starts_of slots 0 chunks
      → get_or starts (length chunks) 0 ≡ length (flat_map slots chunks)
  last-start starts chunks e =
      let all = take_all (length chunks) chunks (omega arith) in
      let at = start-at 0 (length chunks) chunks (omega arith) in
      ap (λ (ns : List ℕ). get_or ns (length chunks) 0) e
      ∙ omega (arith, at, ap (λ (cs : List C). length (flat_map slots cs)) all)

  -- the slot of a row in its chunk
  pub found : (chunks : List C) (at row place : ℕ) (d : C) → at < length chunks
      → row ≡ length (flat_map slots (take at chunks)) + place → row < length (flat_map slots (take (at + 1) chunks))
      → (place < length (slots (get_or chunks at d))) × (get_or (slots (get_or chunks at d)) place None ≡ get_or (flat_map slots chunks) row None)
  found [] at row place d h is inside = absurd (omega arith)
  found (p ∷ ps) zero row place d h is inside =
      let same : place ≡ row = omega arith in
      let room : place < length (slots p) = omega (arith, length-append {A = Option Value} (slots p) []) in (
        room,
        sym (get_or_append_left (slots p) (flat_map slots ps) None place room)
            ∙ ap (λ (k : ℕ). get_or (slots p ++ flat_map slots ps) k None) same,
      )
  found (p ∷ ps) (suc at) row place d h is inside =
      let rest : ℕ = length (flat_map slots (take at ps)) + place in
      let split : length (slots p) + rest ≡ row = omega (arith, is, length-append (slots p) (flat_map slots (take at ps))) in
      let behind = found ps at rest place d (omega arith) refl (room inside split) in (
        behind.0,
        behind.1 ∙ sym (get_or-append-add (slots p) (flat_map slots ps) rest None)
            ∙ ap (λ (k : ℕ). get_or (slots p ++ flat_map slots ps) k None) split,
      )
    where
      room : row < length (flat_map slots (take (suc at + 1) (p ∷ ps))) → length (slots p) + (length (flat_map slots (take at ps)) + place) ≡ row
          → length (flat_map slots (take at ps)) + place < length (flat_map slots (take (at + 1) ps))
      room inside split =
          let is : suc at + 1 ≡ suc (at + 1) = omega arith in
          let more : row < length (flat_map slots (take (suc (at + 1)) (p ∷ ps))) = subst (λ (k : ℕ). row < length (flat_map slots (take k (p ∷ ps)))) is inside in
          omega (arith, more, split, length-append (slots p) (flat_map slots (take (at + 1) ps)))

  -- the same by starts
  pub found-by : (starts : List ℕ) (chunks : List C) (at row : ℕ) (d : C) → starts ≡ starts_of slots 0 chunks → at + 1 < length starts
      → get_or starts at 0 ≤ row → row < get_or starts (at + 1) 0
      → (place : ℕ) → place ≡ row - get_or starts at 0
      → (place < length (slots (get_or chunks at d))) × (get_or (slots (get_or chunks at d)) place None ≡ get_or (flat_map slots chunks) row None)
  found-by starts chunks at row d e inside from to place is =
      let long : at < length chunks = omega (arith, ap length e, length-starts 0 chunks) in
      let here = ap (λ (ns : List ℕ). get_or ns at 0) e ∙ start-at 0 at chunks (omega arith) in
      let next = ap (λ (ns : List ℕ). get_or ns (at + 1) 0) e ∙ start-at 0 (at + 1) chunks (omega arith) in
      found chunks at row place d long (omega (arith, here, is, from)) (omega (arith, next, to))

  -- the rows from a place on, by the number of its row
  pub rows-at : (chunk skip : ℕ) (chunks : List C)
      → rows_from slots chunk skip chunks ≡ drop (sum (take chunk (lengths_of slots chunks)) + skip) (flat_map slots chunks)
  rows-at zero skip chunks = let is : skip ≡ 0 + skip = omega arith in ap (λ (n : ℕ). drop n (flat_map slots chunks)) is
  rows-at (suc chunk) skip [] = none skip (0 + skip)
    where
      none : (n m : ℕ) → drop n (flat_map slots []) ≡ drop m []
      none zero zero = refl
      none zero (suc m) = refl
      none (suc n) zero = refl
      none (suc n) (suc m) = refl
  rows-at (suc chunk) skip (c ∷ cs) =
      let before : ℕ = sum (take chunk (lengths_of slots cs)) in
      let total = sum_by-cons (λ (n : ℕ). n) (length (slots c)) (take chunk (lengths_of slots cs)) in
      let is : length (slots c) + (before + skip) ≡ sum (length (slots c) ∷ take chunk (lengths_of slots cs)) + skip = omega (arith, total) in
      rows-at chunk skip cs
      ∙ sym (drop-append-add (slots c) (flat_map slots cs) (before + skip))
      ∙ ap (λ (n : ℕ). drop n (slots c ++ flat_map slots cs)) is

  -- the same in a chunk that was read
  pub found-in : (starts : List ℕ) (chunks : List C) (at row : ℕ) (chunk : C) → chunk ≡ get_or chunks at chunk
      → starts ≡ starts_of slots 0 chunks → at + 1 < length starts → get_or starts at 0 ≤ row → row < get_or starts (at + 1) 0
      → (row - get_or starts at 0 < length (slots chunk)) × (get_or (slots chunk) (row - get_or starts at 0) None ≡ get_or (flat_map slots chunks) row None)
  found-in starts chunks at row chunk is e inside from to =
      let place : ℕ = row - get_or starts at 0 in
      subst (λ (p : C). (place < length (slots p)) × (get_or (slots p) place None ≡ get_or (flat_map slots chunks) row None)) (sym is)
      (found-by starts chunks at row chunk e inside from to place refl)

  -- the same of a column
  pub left-at : (chunk skip : ℕ) (chunks items : List C) (v w : Chunked) → chunks ≡ items → v.chunk_lengths ≡ lengths_of slots items
      → v.column.slots ≡ flat_map slots items → v ≡ w → rows_from slots chunk skip chunks ≡ rows_left chunk skip w
  left-at chunk skip chunks items v w same lengths rows is =
      ap (rows_from slots chunk skip) same ∙ rows-at chunk skip items
      ∙ ap (λ (ns : List ℕ). drop (sum (take chunk ns) + skip) (flat_map slots items)) (sym lengths)
      ∙ ap (drop (sum (take chunk v.chunk_lengths) + skip)) (sym rows)
      ∙ ap (rows_left chunk skip) is

-- no slot where there is no such row
pub no-row : (rows : List (Option Value)) (row : Option ℕ) (r : ℕ) → row ≡ Some r → length rows ≤ r
    → None ≡ option_and_then (λ n. get_or rows n None) row
no-row rows row r is past = sym (ap (option_and_then (λ n. get_or rows n None)) is ∙ get_or_past rows r None past)

pub ruleset start_laws = (length-starts, start-at)
