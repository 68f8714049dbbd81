-- Folds over the integers of slots.
use Rattle.std.specs.Prelude.{◌≡◌, ◌+◌, ◌-◌, ◌*◌, ◌≤◌, ◌<◌, ◌==◌, ◌^◌, ℕ, ℤ, min, Bool, true, false, List, [], ◌∷◌, ◌++◌, length, map, take, drop, fold, Option, Some, None, if◌then◌else◌}
use Rattle.std.specs.Int.{bit_at}
use Rattle.std.specs.List.{flat_map, reduce}
use Rattle.std.proofs.Common.{refl, ap, sym, ◌∙◌, arith, inl, inr, add-zero, get_or, length-take, length-drop}
use Rattle.std.proofs.lemmas.Bool.{cases_lt}
use Rattle.std.proofs.lemmas.List.{drop_more, drop_all, drop-drop, take-append-drop}
use Rattle.std.proofs.lemmas.List.Elements.{filter_map-append}
use Rattle.std.proofs.lemmas.List.Sums.{fold-append}
use Rattle.std.proofs.lemmas.Nat.Bits.{bit_at_ones}
use Rattle.col_model.specs.Value.{Value}
use Rattle.col_model.specs.Words.{integer_in, integers_of}
use Rattle.col_buffer.specs.Validity.{masked, slot_if, valid_at}
use Rattle.col_buffer.proofs.SlotLaws.{masked-append}
use Rattle.col_chunk.specs.Folds.{run_slots}
use Rattle.col_chunk.proofs.Pieces.{pieces-from}

-- ---- words that are all valid

pub all-valid : {T : Type 0} (reading : T → ℤ) (words : Option (List ℕ)) (i : ℕ) (xs : List T) → ((j : ℕ) → i ≤ j → j < i + length xs → valid_at words j ≡ true)
    → integers_of (masked reading words i xs) ≡ map reading xs
all-valid reading words i [] h = refl
all-valid reading words i (x ∷ xs) h =
    ap (λ (b : Bool). integers_of (slot_if reading b x ∷ masked reading words (i + 1) xs)) (h i (omega arith) (omega arith))
    ∙ ap (λ (zs : List ℤ). reading x ∷ zs) (all-valid reading words (i + 1) xs (λ j low high. h j (omega arith) (omega arith)))

pub plain-integers : {T : Type 0} (reading : T → ℤ) (i : ℕ) (xs : List T) → integers_of (masked reading None i xs) ≡ map reading xs
plain-integers reading i xs = all-valid reading None i xs (λ j low high. refl)

-- ---- a run of words under one word of bits

pub run-masked : {T : Type 0} (reading : T → ℤ) (words : Option (List ℕ)) (word place i : ℕ) (xs : List T)
    → ((j : ℕ) → j < i + length xs → (bit_at word j == 1) ≡ valid_at words (place + j)) → run_slots reading word i xs ≡ masked reading words (place + i) xs
run-masked reading words word place i [] h = refl
run-masked reading words word place i (x ∷ xs) h =
    let is : place + (i + 1) ≡ place + i + 1 = omega arith in
    ap (λ (b : Bool). slot_if reading b x ∷ run_slots reading word (i + 1) xs) (h i (omega arith))
    ∙ ap (λ (zs : List (Option Value)). slot_if reading (valid_at words (place + i)) x ∷ zs)
    (run-masked reading words word place (i + 1) xs (λ j less. h j (omega arith)) ∙ ap (λ (n : ℕ). masked reading words n xs) is)

pub run-ones : {T : Type 0} (reading : T → ℤ) (i : ℕ) (xs : List T) → i + length xs ≤ 64 → integers_of (run_slots reading (2 ^ 64 - 1) i xs) ≡ map reading xs
run-ones reading i [] h = refl
run-ones reading i (x ∷ xs) h =
    let set : (bit_at (2 ^ 64 - 1) i == 1) ≡ true = ap (λ (n : ℕ). n == 1) (bit_at_ones 64 i (omega arith)) in
    ap (λ (b : Bool). integers_of (slot_if reading b x ∷ run_slots reading (2 ^ 64 - 1) (i + 1) xs)) set
    ∙ ap (λ (zs : List ℤ). reading x ∷ zs) (run-ones reading (i + 1) xs (omega arith))

-- a loop's step over a run
pub run-step : {T : Type 0} (reading : T → ℤ) (f : ℤ → ℤ → ℤ) (word i : ℕ) (xs : List T) (x : T) (b : Bool) (total next all : ℤ) → i < length xs → x ≡ get_or xs i x → b ≡ (bit_at word i == 1)
    → next ≡ (if b then f total (reading x) else total)
    → fold f total (integers_of (run_slots reading word i (drop i xs))) ≡ all → fold f next (integers_of (run_slots reading word (i + 1) (drop (i + 1) xs))) ≡ all
run-step {T} reading f word i xs x b total next all inside is set made whole =
    ap (λ (z : ℤ). fold f z (integers_of (run_slots reading word (i + 1) (drop (i + 1) xs)))) made
    ∙ one b
    ∙ ap (λ (c : Bool). fold f total (integers_of (slot_if reading c x ∷ run_slots reading word (i + 1) (drop (i + 1) xs)))) set
    ∙ sym (ap (λ (ys : List T). fold f total (integers_of (run_slots reading word i ys))) (drop_more xs i x inside ∙ ap (λ (y : T). y ∷ drop (i + 1) xs) (sym is)))
    ∙ whole
  where
    one : (c : Bool) → fold f (if c then f total (reading x) else total) (integers_of (run_slots reading word (i + 1) (drop (i + 1) xs)))
        ≡ fold f total (integers_of (slot_if reading c x ∷ run_slots reading word (i + 1) (drop (i + 1) xs)))
    one true = refl
    one false = refl

-- a loop's step over the runs of values
pub runs-step : {T : Type 0} (reading : T → ℤ) (f : ℤ → ℤ → ℤ) (words : Option (List ℕ)) (word offset at end : ℕ) (xs : List T) (total next all : ℤ) → at * 64 < length xs → end ≡ min (length xs) (at * 64 + 64)
    → ((j : ℕ) → j < end - at * 64 → (bit_at word j == 1) ≡ valid_at words (offset + at * 64 + j))
    → next ≡ fold f total (integers_of (run_slots reading word 0 (take (end - at * 64) (drop (at * 64) xs))))
    → fold f total (integers_of (masked reading words (offset + at * 64) (drop (at * 64) xs))) ≡ all
    → fold f next (integers_of (masked reading words (offset + (at + 1) * 64) (drop ((at + 1) * 64) xs))) ≡ all
runs-step {T} reading f words word offset at end xs total next all inside e bits made whole =
    let run : List T = take (end - at * 64) (drop (at * 64) xs) in
    let rest : List T = drop (end - at * 64) (drop (at * 64) xs) in
    let place : ℕ = offset + at * 64 in
    let size : length run ≡ end - at * 64 = omega (arith, length-take (end - at * 64) (drop (at * 64) xs), length-drop (at * 64) xs) in
    let here : run_slots reading word 0 run ≡ masked reading words place run = run-masked reading words word place 0 run (λ j less. bits j (omega (arith, size))) ∙ ap (λ (n : ℕ). masked reading words n run) (add-zero place) in
    ap (λ (z : ℤ). fold f z (integers_of (masked reading words (offset + (at + 1) * 64) (drop ((at + 1) * 64) xs)))) made
    ∙ ap (λ (ss : List (Option Value)). fold f (fold f total (integers_of ss)) (integers_of (masked reading words (offset + (at + 1) * 64) (drop ((at + 1) * 64) xs)))) here
    ∙ ap (λ (ss : List (Option Value)). fold f (fold f total (integers_of (masked reading words place run))) (integers_of ss)) (sym (behind size))
    ∙ sym (fold-append f total (integers_of (masked reading words place run)) (integers_of (masked reading words (place + length run) rest)))
    ∙ ap (fold f total) (sym (filter_map-append integer_in (masked reading words place run) (masked reading words (place + length run) rest)))
    ∙ ap (λ (ss : List (Option Value)). fold f total (integers_of ss)) (sym (masked-append reading words place run rest) ∙ ap (masked reading words place) (take-append-drop (end - at * 64) (drop (at * 64) xs)))
    ∙ whole
  where
    behind : length (take (end - at * 64) (drop (at * 64) xs)) ≡ end - at * 64
        → masked reading words (offset + at * 64 + length (take (end - at * 64) (drop (at * 64) xs))) (drop (end - at * 64) (drop (at * 64) xs))
        ≡ masked reading words (offset + (at + 1) * 64) (drop ((at + 1) * 64) xs)
    behind size = elim (cases_lt (at * 64 + 64) (length xs)) [
      | inl more ↦
          let a : at * 64 + (end - at * 64) ≡ (at + 1) * 64 = omega arith in
          let b : offset + at * 64 + length (take (end - at * 64) (drop (at * 64) xs)) ≡ offset + (at + 1) * 64 = omega arith in
          ap (λ (n : ℕ). masked reading words n (drop (end - at * 64) (drop (at * 64) xs))) b
          ∙ ap (masked reading words (offset + (at + 1) * 64)) (drop-drop (end - at * 64) (at * 64) xs ∙ ap (λ (n : ℕ). drop n xs) a)
      | inr last ↦
          ap (masked reading words (offset + at * 64 + length (take (end - at * 64) (drop (at * 64) xs)))) (drop_all (end - at * 64) (drop (at * 64) xs) (omega (arith, length-drop (at * 64) xs)))
          ∙ sym (ap (masked reading words (offset + (at + 1) * 64)) (drop_all ((at + 1) * 64) xs (omega arith)))
    ]

-- the end of the runs
pub runs-end : {T : Type 0} (reading : T → ℤ) (f : ℤ → ℤ → ℤ) (words : Option (List ℕ)) (place n : ℕ) (xs : List T) (total all : ℤ) → length xs ≤ n
    → fold f total (integers_of (masked reading words place (drop n xs))) ≡ all → total ≡ all
runs-end {T} reading f words place n xs total all h whole =
    sym (ap (λ (ys : List T). fold f total (integers_of (masked reading words place ys))) (drop_all n xs h)) ∙ whole

-- a loop's step over chunks
pub chunks-step : {C : Type 0} (slots : C → List (Option Value)) (f : ℤ → ℤ → ℤ) (chunks : List C) (i : ℕ) (chunk : C) (total next all : ℤ) → i < length chunks → chunk ≡ get_or chunks i chunk
    → next ≡ fold f total (integers_of (slots chunk))
    → fold f total (integers_of (flat_map slots (drop i chunks))) ≡ all → fold f next (integers_of (flat_map slots (drop (i + 1) chunks))) ≡ all
chunks-step slots f chunks i chunk total next all h e made whole =
    let rest : List (Option Value) = flat_map slots (drop (i + 1) chunks) in
    ap (λ (z : ℤ). fold f z (integers_of rest)) made
    ∙ sym (fold-append f total (integers_of (slots chunk)) (integers_of rest))
    ∙ ap (fold f total) (sym (filter_map-append integer_in (slots chunk) rest))
    ∙ ap (λ (ss : List (Option Value)). fold f total (integers_of ss)) (sym (pieces-from slots chunks i chunk h e))
    ∙ whole

-- the first valid slot, and what is behind it
pub reduce-found : {C : Type 0} (slots : C → List (Option Value)) (f : ℤ → ℤ → ℤ) (chunks : List C) (i : ℕ) (chunk : C) (first total result : ℤ) (rest : List (Option Value)) → i < length chunks → chunk ≡ get_or chunks i chunk
    → integers_of (slots chunk) ≡ first ∷ integers_of rest → total ≡ fold f first (integers_of rest) → result ≡ fold f total (integers_of (flat_map slots (drop (i + 1) chunks)))
    → integers_of (flat_map slots chunks) ≡ integers_of (flat_map slots (drop i chunks)) → Some result ≡ reduce f (integers_of (flat_map slots chunks))
reduce-found slots f chunks i chunk first total result rest h e found made done none =
    let behind : List (Option Value) = flat_map slots (drop (i + 1) chunks) in
    ap (λ (z : ℤ). Some z) (done ∙ ap (λ (z : ℤ). fold f z (integers_of behind)) made ∙ sym (fold-append f first (integers_of rest) (integers_of behind)))
    ∙ ap (reduce f) (ap (λ (zs : List ℤ). zs ++ integers_of behind) (sym found) ∙ sym (filter_map-append integer_in (slots chunk) behind)
    ∙ ap integers_of (sym (pieces-from slots chunks i chunk h e)) ∙ sym none)

-- a chunk without valid slots
pub reduce-skip : {C : Type 0} (slots : C → List (Option Value)) (chunks : List C) (i : ℕ) (chunk : C) → i < length chunks → chunk ≡ get_or chunks i chunk → integers_of (slots chunk) ≡ []
    → integers_of (flat_map slots (drop i chunks)) ≡ integers_of (flat_map slots (drop (i + 1) chunks))
reduce-skip slots chunks i chunk h e none =
    ap integers_of (pieces-from slots chunks i chunk h e)
    ∙ filter_map-append integer_in (slots chunk) (flat_map slots (drop (i + 1) chunks))
    ∙ ap (λ (zs : List ℤ). zs ++ integers_of (flat_map slots (drop (i + 1) chunks))) none
