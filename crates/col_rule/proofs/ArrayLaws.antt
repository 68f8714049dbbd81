-- Laws of rules over chunks.
use Rattle.std.specs.Prelude.{◌≡◌, ◌+◌, ◌<◌, ◌&&◌, ℕ, zero, suc, ℤ, Bool, true, false, List, [], ◌∷◌, ◌++◌, Option, Some, None, IfSome, length, drop, is_some, is_none, if◌then◌else◌}
use Rattle.std.proofs.Common.{refl, ap, sym, ◌∙◌, arith, get_or}
use Rattle.std.proofs.lemmas.List.{drop_more, append_assoc, append-nil, map-append, take_all}
use Rattle.std.proofs.Math.Seq.{take-add}
use Rattle.col_model.specs.Value.{Value, on_slot}
use Rattle.col_model.specs.ColumnCalls.{first_lost}
use Rattle.col_chunk.specs.Chunks.{joined, lengths_of}
use Rattle.col_rule.specs.Rules.{mapped, paired}
use Rattle.col_rule.proofs.RowLaws.{paired-append}
use Rattle.std.specs.Prelude.{◌-◌, ◌≤◌, take}
use Rattle.col_rule.specs.Rules.{or_later}

-- the slots of the chunks from one on
pub more_chunks : (chunks : List (List (Option Value))) (i : ℕ) (chunk : List (Option Value)) → i < length chunks → chunk ≡ get_or chunks i chunk
    → joined (λ c. c) (drop i chunks) ≡ chunk ++ joined (λ c. c) (drop (i + 1) chunks)
more_chunks chunks i chunk inside is =
    ap (joined (λ c. c)) (drop_more chunks i chunk inside) ∙ ap (λ (c : List (Option Value)). c ++ joined (λ c. c) (drop (i + 1) chunks)) (sym is)

pub joined-more : (chunks : List (List (Option Value))) (chunk : List (Option Value)) → joined (λ c. c) (chunks ++ chunk ∷ []) ≡ joined (λ c. c) chunks ++ chunk
joined-more [] chunk = append-none chunk
  where
    append-none : (xs : List (Option Value)) → xs ++ [] ≡ xs
    append-none [] = refl
    append-none (x ∷ xs) = ap (λ (ys : List (Option Value)). x ∷ ys) (append-none xs)
joined-more (c ∷ chunks) chunk = ap (λ (xs : List (Option Value)). c ++ xs) (joined-more chunks chunk) ∙ sym (append_assoc c (joined (λ c. c) chunks) chunk)

-- a loop's step over the chunks
pub slots-step : (f : ℤ → Option ℤ) (chunks : List (List (Option Value))) (done new : List (Option Value)) (i : ℕ) (chunk part : List (Option Value))
    → i < length chunks → chunk ≡ get_or chunks i chunk → part ≡ mapped f chunk → new ≡ done ++ part
    → done ++ mapped f (joined (λ c. c) (drop i chunks)) ≡ mapped f (joined (λ c. c) chunks)
    → new ++ mapped f (joined (λ c. c) (drop (i + 1) chunks)) ≡ mapped f (joined (λ c. c) chunks)
slots-step f chunks done new i chunk part inside is e made whole_is =
    let rest : List (Option Value) = joined (λ c. c) (drop (i + 1) chunks) in
    ap (λ (xs : List (Option Value)). xs ++ mapped f rest) (made ∙ ap (λ (xs : List (Option Value)). done ++ xs) e)
    ∙ append_assoc done (mapped f chunk) (mapped f rest)
    ∙ ap (λ (xs : List (Option Value)). done ++ xs) (sym (map-append (on_slot f) chunk rest) ∙ ap (mapped f) (sym (more_chunks chunks i chunk inside is)))
    ∙ whole_is

-- a loop's step over the parts of a chunk
pub parts-step : (whole : List (Option Value)) (done new : List (List (Option Value))) (start len : ℕ) (part : List (Option Value))
    → part ≡ take len (drop start whole) → new ≡ done ++ part ∷ [] → joined (λ c. c) done ≡ take start whole
    → joined (λ c. c) new ≡ take (start + len) whole
parts-step whole done new start len part is made so_far =
    ap (joined (λ c. c)) made ∙ joined-more done part
    ∙ ap (λ (xs : List (Option Value)). xs ++ part) so_far
    ∙ ap (λ (xs : List (Option Value)). take start whole ++ xs) is
    ∙ sym (take-add start len whole)

-- one chunk alone, and all of it
pub one_chunk : (chunk : List (Option Value)) → joined (λ c. c) (chunk ∷ []) ≡ chunk
one_chunk chunk = append-nil chunk

pub all_taken : (chunk : List (Option Value)) → take (length chunk) (drop 0 chunk) ≡ chunk
all_taken chunk = let all : length chunk ≤ length chunk = omega arith in take_all (length chunk) chunk all

pub lengths-step : (chunks done new : List (List (Option Value))) (i : ℕ) (chunk part : List (Option Value))
    → i < length chunks → chunk ≡ get_or chunks i chunk → length part ≡ length chunk → new ≡ done ++ part ∷ []
    → lengths_of (λ c. c) done ++ lengths_of (λ c. c) (drop i chunks) ≡ lengths_of (λ c. c) chunks
    → lengths_of (λ c. c) new ++ lengths_of (λ c. c) (drop (i + 1) chunks) ≡ lengths_of (λ c. c) chunks
lengths-step chunks done new i chunk part inside is e made whole_is =
    let rest : List ℕ = lengths_of (λ c. c) (drop (i + 1) chunks) in
    ap (λ (cs : List (List (Option Value))). lengths_of (λ c. c) cs ++ rest) made
    ∙ ap (λ (ns : List ℕ). ns ++ rest) (map-append (λ (c : List (Option Value)). length c) done (part ∷ []))
    ∙ append_assoc (lengths_of (λ c. c) done) (length part ∷ []) rest
    ∙ ap (λ (n : ℕ). lengths_of (λ c. c) done ++ n ∷ rest) (e ∙ ap length is)
    ∙ ap (λ (ns : List ℕ). lengths_of (λ c. c) done ++ ns) (sym (ap (lengths_of (λ c. c)) (drop_more chunks i chunk inside)))
    ∙ whole_is

-- ---- the first lost row

pub lost-on : (f : Option Value → Option Value) (n m : ℕ) (slots : List (Option Value)) → first_lost f (n + m) slots ≡ or_later None n (first_lost f m slots)
lost-on f n m [] = refl
lost-on f n m (s ∷ slots) =
    let next : n + m + 1 ≡ n + (m + 1) = omega arith in
    by_test (is_some s && is_none (f s)) (ap (λ (k : ℕ). first_lost f k slots) next ∙ lost-on f n (m + 1) slots)
  where
    by_test : (b : Bool) → first_lost f (n + m + 1) slots ≡ or_later None n (first_lost f (m + 1) slots)
        → (if b then Some (n + m) else first_lost f (n + m + 1) slots) ≡ or_later None n (if b then Some m else first_lost f (m + 1) slots)
    by_test true e = refl
    by_test false e = e

pub lost-append : (f : Option Value → Option Value) (n : ℕ) (xs ys : List (Option Value)) → first_lost f n (xs ++ ys) ≡ or_later (first_lost f n xs) (n + length xs) (first_lost f 0 ys)
lost-append f n [] ys = let zero-on : n + 0 ≡ n = omega arith in ap (λ (k : ℕ). first_lost f k ys) (sym zero-on) ∙ lost-on f n 0 ys ∙ ap (λ (k : ℕ). or_later None k (first_lost f 0 ys)) (sym zero-on)
lost-append f n (x ∷ xs) ys =
    let next : n + 1 + length xs ≡ n + suc (length xs) = omega arith in
    by_test (is_some x && is_none (f x)) (lost-append f (n + 1) xs ys ∙ ap (λ (k : ℕ). or_later (first_lost f (n + 1) xs) k (first_lost f 0 ys)) next)
  where
    by_test : (b : Bool) → first_lost f (n + 1) (xs ++ ys) ≡ or_later (first_lost f (n + 1) xs) (n + suc (length xs)) (first_lost f 0 ys)
        → (if b then Some n else first_lost f (n + 1) (xs ++ ys)) ≡ or_later (if b then Some n else first_lost f (n + 1) xs) (n + suc (length xs)) (first_lost f 0 ys)
    by_test true e = refl
    by_test false e = e

-- the lost row is one of the slots
pub lost-inside : (f : Option Value → Option Value) (n : ℕ) (slots : List (Option Value)) → IfSome (first_lost f n slots) (λ row. row < n + length slots)
lost-inside f n [] = tt
lost-inside f n (s ∷ slots) = by_test (is_some s && is_none (f s)) (later (first_lost f (n + 1) slots) (lost-inside f (n + 1) slots))
  where
    later : (r : Option ℕ) → IfSome r (λ row. row < n + 1 + length slots) → IfSome r (λ row. row < n + suc (length slots))
    later None h = tt
    later (Some r) h = omega arith

    by_test : (b : Bool) → IfSome (first_lost f (n + 1) slots) (λ row. row < n + suc (length slots)) → IfSome (if b then Some n else first_lost f (n + 1) slots) (λ row. row < n + suc (length slots))
    by_test true e = omega arith
    by_test false e = e

pub lost-within : (f : Option Value → Option Value) (slots : List (Option Value)) → IfSome (first_lost f 0 slots) (λ row. row < length slots)
lost-within f slots = let is : 0 + length slots ≡ length slots = omega arith in rw is at (lost-inside f 0 slots)

or_later-assoc : (a b c : Option ℕ) (n m : ℕ) → or_later a n (or_later b m c) ≡ or_later (or_later a n b) (n + m) c
or_later-assoc (Some a) b c n m = refl
or_later-assoc None (Some b) c n m = refl
or_later-assoc None None None n m = refl
or_later-assoc None None (Some c) n m = let is : n + (m + c) ≡ n + m + c = omega arith in ap Some is

pub lost-step : (f : Option Value → Option Value) (chunks : List (List (Option Value))) (i start : ℕ) (chunk : List (Option Value)) (lost : Option ℕ)
    → i < length chunks → chunk ≡ get_or chunks i chunk
    → or_later lost start (first_lost f 0 (joined (λ c. c) (drop i chunks))) ≡ first_lost f 0 (joined (λ c. c) chunks)
    → or_later (or_later lost start (first_lost f 0 chunk)) (start + length chunk) (first_lost f 0 (joined (λ c. c) (drop (i + 1) chunks))) ≡ first_lost f 0 (joined (λ c. c) chunks)
lost-step f chunks i start chunk lost inside is whole_is =
    let rest : Option ℕ = first_lost f 0 (joined (λ c. c) (drop (i + 1) chunks)) in
    let none : 0 + length chunk ≡ length chunk = omega arith in
    sym (or_later-assoc lost (first_lost f 0 chunk) rest start (length chunk))
    ∙ ap (or_later lost start) (ap (λ (k : ℕ). or_later (first_lost f 0 chunk) k rest) (sym none) ∙ sym (lost-append f 0 chunk (joined (λ c. c) (drop (i + 1) chunks))) ∙ ap (first_lost f 0) (sym (more_chunks chunks i chunk inside is)))
    ∙ whole_is

pub lost-end : (lost : Option ℕ) (start : ℕ) → or_later lost start None ≡ lost
lost-end None start = refl
lost-end (Some row) start = refl

-- ---- two columns

-- a list behind a part that is passed over
pub drop-past : {X : Type 0} (piece rest : List X) (skip : ℕ) → length piece ≤ skip → drop skip (piece ++ rest) ≡ drop (skip - length piece) rest
drop-past [] rest skip h = let is : skip ≡ skip - 0 = omega arith in ap (λ (n : ℕ). drop n rest) is
drop-past (x ∷ piece) rest zero h = absurd (omega arith)
drop-past (x ∷ piece) rest (suc skip) h = let is : skip - length piece ≡ suc skip - suc (length piece) = omega arith in drop-past piece rest skip (omega arith) ∙ ap (λ (n : ℕ). drop n rest) is

pub take-past : {X : Type 0} (piece rest : List X) (left : ℕ) → length piece ≤ left → take left (piece ++ rest) ≡ piece ++ take (left - length piece) rest
take-past [] rest left h = let is : left ≡ left - 0 = omega arith in ap (λ (n : ℕ). take n rest) is
take-past (x ∷ piece) rest zero h = absurd (omega arith)
take-past (x ∷ piece) rest (suc left) h = let is : left - length piece ≡ suc left - suc (length piece) = omega arith in ap (λ (xs : List _). x ∷ xs) (take-past piece rest left (omega arith) ∙ ap (λ (n : ℕ). piece ++ take n rest) is)

-- a loop's step over the chunks of the left column
pub meet-step : (f : ℤ → ℤ → Option ℤ) (chunks : List (List (Option Value))) (done new : List (Option Value)) (i : ℕ) (chunk part other now next whole : List (Option Value))
    → i < length chunks → chunk ≡ get_or chunks i chunk → part ≡ paired f chunk other → other ≡ take (length chunk) now → next ≡ drop (length chunk) now → new ≡ done ++ part
    → done ++ paired f (joined (λ c. c) (drop i chunks)) now ≡ whole
    → new ++ paired f (joined (λ c. c) (drop (i + 1) chunks)) next ≡ whole
meet-step f chunks done new i chunk part other now next whole inside is e here behind made whole_is =
    let rest : List (Option Value) = joined (λ c. c) (drop (i + 1) chunks) in
    ap (λ (xs : List (Option Value)). xs ++ paired f rest next) (made ∙ ap (λ (xs : List (Option Value)). done ++ xs) (e ∙ ap (paired f chunk) here))
    ∙ ap (λ (ys : List (Option Value)). (done ++ paired f chunk (take (length chunk) now)) ++ paired f rest ys) behind
    ∙ append_assoc done (paired f chunk (take (length chunk) now)) (paired f rest (drop (length chunk) now))
    ∙ ap (λ (xs : List (Option Value)). done ++ xs) (sym (paired-append f chunk rest now) ∙ ap (λ (xs : List (Option Value)). paired f xs now) (sym (more_chunks chunks i chunk inside is)))
    ∙ whole_is

pub ruleset array_laws = (lost-end, lost-inside)
