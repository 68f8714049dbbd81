-- The first index past the end.
use Rattle.std.specs.Prelude.{◌≡◌, ◌+◌, ◌-◌, ◌^◌, ◌<◌, ◌≤ℤ◌, ℕ, ℤ, pos, negsuc, Bool, true, false, not, nat_lt, List, [], ◌∷◌, ◌++◌, length, drop, slice_index_or, Option, Some, None, if◌then◌else◌}
use Rattle.std.specs.List.{find, flat_map}
use Rattle.std.specs.Option.{option_and_then, option_or}
use Rattle.std.proofs.Common.{refl, ap, sym, ◌∙◌, arith, get_or}
use Rattle.std.proofs.lemmas.List.{drop_more, get_or-map, length-map}
use Rattle.col_model.specs.Value.{Value, Flat, Nested, Whole, Bytes, whole}
use Rattle.std.specs.Int.{w32}
use Rattle.std.proofs.lemmas.Int.{ints}
use Rattle.col_model.specs.Arithmetic.{Unsigned, word_values, wrapped_value}
use Rattle.col_model.proofs.WithinLemmas.{is_within-true}
use Rattle.col_model.proofs.WordLemmas.{wrapped_value-within}
use Rattle.col_model.specs.ChunkCalls.{is_outside, named_row}
use Rattle.col_chunk.specs.Chunks.{row_past, word_slots}
use Rattle.col_chunk.proofs.Pieces.{pieces-from}

-- the row that the first index past the end names
abbrev pub outside_row : ℕ → List (Option Value) → Option ℕ
outside_row rows indices = option_and_then named_row (find (is_outside rows) indices)

-- one index at the front
front : (rows : ℕ) (x : Option Value) (rest : List (Option Value)) (o : Option ℕ) → row_past rows (named_row x) ≡ o
    → outside_row rows (x ∷ rest) ≡ option_or o (outside_row rows rest)
front rows None rest o e = ap (λ (p : Option ℕ). option_or p (outside_row rows rest)) e
front rows (Some (Flat (Whole (pos n)))) rest o e = by_test (nat_lt n rows) ∙ ap (λ (p : Option ℕ). option_or p (outside_row rows rest)) e
  where
    by_test : (b : Bool) → option_and_then named_row (if not b then Some (Some (Flat (Whole (pos n)))) else find (is_outside rows) rest) ≡ option_or (if b then None else Some n) (outside_row rows rest)
    by_test true = refl
    by_test false = refl
front rows (Some (Flat (Whole (negsuc n)))) rest o e = ap (λ (p : Option ℕ). option_or p (outside_row rows rest)) e
front rows (Some (Flat (Bytes b))) rest o e = ap (λ (p : Option ℕ). option_or p (outside_row rows rest)) e
front rows (Some (Nested l)) rest o e = ap (λ (p : Option ℕ). option_or p (outside_row rows rest)) e

-- a loop's step over indices
pub outside-step : (rows : ℕ) (xs : List (Option Value)) (i : ℕ) (o : Option ℕ) → i < length xs → o ≡ row_past rows (named_row (slice_index_or xs i None))
    → outside_row rows (drop i xs) ≡ option_or o (outside_row rows (drop (i + 1) xs))
outside-step rows xs i o h e =
    ap (outside_row rows) (drop_more xs i None h) ∙ front rows (slice_index_or xs i None) (drop (i + 1) xs) o (sym e)

or-assoc : {X : Type 0} (o p q : Option X) → option_or o (option_or p q) ≡ option_or (option_or o p) q
or-assoc None p q = refl
or-assoc (Some x) p q = refl

pub outside-append : (rows : ℕ) (xs ys : List (Option Value)) → outside_row rows (xs ++ ys) ≡ option_or (outside_row rows xs) (outside_row rows ys)
outside-append rows [] ys = refl
outside-append rows (x ∷ xs) ys =
    front rows x (xs ++ ys) _ refl
    ∙ ap (option_or (row_past rows (named_row x))) (outside-append rows xs ys)
    ∙ or-assoc (row_past rows (named_row x)) (outside_row rows xs) (outside_row rows ys)
    ∙ ap (λ (p : Option ℕ). option_or p (outside_row rows ys)) (sym (front rows x xs _ refl))

-- a loop's step over chunks of indices
pub outside-chunks : {C : Type 0} (slots : C → List (Option Value)) (rows : ℕ) (chunks : List C) (i : ℕ) (chunk : C) (o : Option ℕ) → i < length chunks → chunk ≡ get_or chunks i chunk → o ≡ outside_row rows (slots chunk)
    → outside_row rows (flat_map slots (drop i chunks)) ≡ option_or o (outside_row rows (flat_map slots (drop (i + 1) chunks)))
outside-chunks slots rows chunks i chunk o h e is =
    let rest : List (Option Value) = flat_map slots (drop (i + 1) chunks) in
    ap (outside_row rows) (pieces-from slots chunks i chunk h e)
    ∙ outside-append rows (slots chunk) rest
    ∙ ap (λ (p : Option ℕ). option_or p (outside_row rows rest)) (sym is)

-- the row that a word names
pub row-of-slot : {T : Type 0} (reading : T → ℤ) (x : T) (row : ℕ) (slot : Option Value) → Some (whole (reading x)) ≡ slot
    → reading x ≡ pos row → Some row ≡ named_row slot
row-of-slot reading x row slot is e = sym (ap (λ (z : ℤ). named_row (Some (whole z))) e) ∙ ap named_row is

pub row-of-word : {T : Type 0} (reading : T → ℤ) (xs : List T) (i row : ℕ) (d : T) → i < length (word_slots reading xs)
    → reading (get_or xs i d) ≡ pos row → Some row ≡ named_row (slice_index_or (word_slots reading xs) i None)
row-of-word {T} reading xs i row d h e =
    let inside : i < length xs = omega (arith, h, length-map xs (λ (x : T). Some (whole (reading x)))) in
    row-of-slot reading (get_or xs i d) row (get_or (word_slots reading xs) i None)
    (sym (get_or-map (λ (x : T). Some (whole (reading x))) xs i d None inside)) e

-- a number of a row is read as it is
pub kept-number : (n : ℕ) → n < 2 ^ 32 → wrapped_value (Unsigned w32) (pos n) ≡ pos n
kept-number n h =
    let low : pos 0 ≤ℤ pos n = omega (arith, ints) in
    let high : pos n ≤ℤ pos (2 ^ 32 - 1) = omega (arith, ints, h) in
    wrapped_value-within (Unsigned w32) (pos n) (is_within-true (word_values (Unsigned w32)) (pos n) (record { low = low; high = high }))
