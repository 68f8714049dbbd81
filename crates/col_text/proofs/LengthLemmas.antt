-- How many slots the chunks of a line have.
use Rattle.std.proofs.Common.{◌≡◌, ◌∙◌, ◌<◌, ◌+◌, ℕ, zero, suc, Bool, true, false, List, [], ◌∷◌, ◌++◌, filter, length, map, take, drop, get_or, Option, Some, None, refl, sym, ap, arith, append_assoc}
use Rattle.std.specs.Prelude.{IfSome, if◌then◌else◌, sum}
use Rattle.std.specs.List.{onto_first, slice_split}
use Rattle.std.proofs.lemmas.List.{append-nil, drop_more, map-append}
use Rattle.std.proofs.lemmas.List.Sums.{sum_by-append, sum_by-drop_more}
use Rattle.std.proofs.Math.Seq.{take-add}
use Rattle.col_model.specs.Value.{Value}
use Rattle.col_chunk.specs.Chunks.{joined, lengths_of}
use Rattle.col_token.specs.Tokens.{words_in}
use Rattle.col_text.specs.Parts.{with_first, all_read}
use Rattle.col_text.specs.Slots.{closed, ends_chunk, is_filled, lengths_behind, lengths_from, lengths_in, slots_by}
use Rattle.col_text.specs.declared.slots.Front.TheVariants as fronts

-- ---- what is read of chunks has their lengths

one_more : {X Y : Type 0} (first : Option Y) (rest : Option (List Y)) (x : X) (xs : List X)
    → IfSome rest (λ ys. length ys ≡ length xs) → IfSome (with_first first rest) (λ ys. length ys ≡ length (x ∷ xs))
one_more None rest x xs e = tt
one_more (Some y) None x xs e = tt
one_more (Some y) (Some ys) x xs e = ap suc e

length-read : {X Y : Type 0} (read : X → Option Y) (xs : List X) → IfSome (all_read read xs) (λ ys. length ys ≡ length xs)
length-read read [] = refl
length-read read (x ∷ xs) = one_more (read x) (all_read read xs) x xs (length-read read xs)

chunk_more : {X Y : Type 0} (first : Option (List Y)) (rest : Option (List (List Y))) (chunk : List X) (chunks : List (List X))
    → IfSome first (λ ys. length ys ≡ length chunk) → IfSome rest (λ yss. map length yss ≡ map length chunks)
    → IfSome (with_first first rest) (λ yss. map length yss ≡ map length (chunk ∷ chunks))
chunk_more None rest chunk chunks e f = tt
chunk_more (Some ys) None chunk chunks e f = tt
chunk_more (Some ys) (Some yss) chunk chunks e f =
    ap (λ n. n ∷ map length yss) e ∙ ap (λ ns. length chunk ∷ ns) f

pub lengths-read : {X Y : Type 0} (read : X → Option Y) (chunks : List (List X))
    → IfSome (all_read (all_read read) chunks) (λ yss. map length yss ≡ map length chunks)
lengths-read read [] = refl
lengths-read read (chunk ∷ chunks) =
    chunk_more (all_read read chunk) (all_read (all_read read) chunks) chunk chunks (length-read read chunk) (lengths-read read chunks)

-- ---- the lengths that are counted are those of the chunks

-- the lengths of pieces, where so many tokens of the first stand before it
abbrev lengths_onto : {X : Type 0} → ℕ → List (List X) → List ℕ
lengths_onto n [] = closed n
lengths_onto n (piece ∷ pieces) = closed (n + length piece) ++ map length (filter is_filled pieces)

onto_none : {X : Type 0} (pieces : List (List X)) → lengths_onto 0 pieces ≡ map length (filter is_filled pieces)
onto_none [] = refl
onto_none ([] ∷ pieces) = refl
onto_none ((token ∷ tokens) ∷ pieces) =
    let is : 0 + length (token ∷ tokens) ≡ suc (length tokens) = omega arith in
    ap (λ n. closed n ++ map length (filter is_filled pieces)) is

onto_token : {X : Type 0} (n : ℕ) (token : X) (pieces : List (List X)) → lengths_onto (n + 1) pieces ≡ lengths_onto n (onto_first token pieces)
onto_token n token [] = sym (append-nil (closed (n + 1)))
onto_token n token (piece ∷ pieces) =
    let is : n + 1 + length piece ≡ n + length (token ∷ piece) = omega arith in
    ap (λ n. closed n ++ map length (filter is_filled pieces)) is

onto_bar : (n : ℕ) (token : List ℕ) (pieces : List (List (List ℕ))) (fresh more : List ℕ) (bar : Bool)
    → fresh ≡ lengths_onto 0 pieces → more ≡ lengths_onto (n + 1) pieces
    → (if bar then closed n ++ fresh else more)
    ≡ lengths_onto n (if bar then [] ∷ pieces else onto_first token pieces)
onto_bar n token pieces fresh more true e f =
    let is : n ≡ n + 0 = omega arith in
    ap (λ ns. closed n ++ ns) (e ∙ onto_none pieces) ∙ ap (λ n. closed n ++ map length (filter is_filled pieces)) is
onto_bar n token pieces fresh more false e f = f ∙ onto_token n token pieces

lengths-split : (n : ℕ) (tokens : List (List ℕ)) → lengths_from n tokens ≡ lengths_onto n (slice_split ends_chunk tokens)
lengths-split n [] = let is : n ≡ n + 0 = omega arith in ap closed is ∙ sym (append-nil (closed (n + 0)))
lengths-split n (token ∷ tokens) =
    onto_bar n token (slice_split ends_chunk tokens) (lengths_from 0 tokens) (lengths_from (n + 1) tokens) (ends_chunk token)
    (lengths-split 0 tokens) (lengths-split (n + 1) tokens)

pub lengths-counted : (tokens : List (List ℕ)) → lengths_from 0 tokens ≡ lengths_in tokens
lengths-counted tokens = lengths-split 0 tokens ∙ onto_none (slice_split ends_chunk tokens)

-- ---- their sum is the number of slots

sum_closed : (n : ℕ) → sum (closed n) ≡ n
sum_closed zero = refl
sum_closed (suc n) = omega arith

sum-append : (xs ys : List ℕ) → sum (xs ++ ys) ≡ sum xs + sum ys
sum-append xs ys = sum_by-append (λ x. x) xs ys

sum_front : {T : Type 0} (end : Bool) (slot : Option T) (rest : Option (List T)) (n : ℕ) (fresh more : List ℕ)
    → IfSome rest (λ slots. sum fresh ≡ 0 + length slots) → IfSome rest (λ slots. sum more ≡ n + 1 + length slots)
    → IfSome (if end then rest else with_first slot rest) (λ slots. sum (if end then closed n ++ fresh else more) ≡ n + length slots)
sum_front true slot None n fresh more e f = tt
sum_front true slot (Some slots) n fresh more e f = omega (arith, sum-append (closed n) fresh, sum_closed n, e)
sum_front false None rest n fresh more e f = tt
sum_front false (Some slot) None n fresh more e f = tt
sum_front false (Some slot) (Some slots) n fresh more e f = omega (arith, f)

sum-lengths : {T : Type 0} (read : List ℕ → Option T) (n : ℕ) (tokens : List (List ℕ))
    → IfSome (slots_by read tokens) (λ slots. sum (lengths_from n tokens) ≡ n + length slots)
sum-lengths read n [] = omega (arith, sum_closed n)
sum-lengths read n (token ∷ tokens) =
    sum_front (ends_chunk token) (read token) (slots_by read tokens) n (lengths_from 0 tokens) (lengths_from (n + 1) tokens)
    (sum-lengths read 0 tokens) (sum-lengths read (n + 1) tokens)

sum_here : {T : Type 0} (lengths : List ℕ) (read : Option (List T)) (slots : List T)
    → IfSome read (λ slots. sum lengths ≡ 0 + length slots) → read ≡ Some slots → sum lengths ≡ length slots
sum_here lengths None slots e is = cc
sum_here lengths (Some all) slots e is =
    let same : all ≡ slots = cc in
    let long : length all ≡ length slots = ap length same in
    omega (arith, e, long)

-- the lengths of a line's chunks, and its slots
pub lengths_all : {T : Type 0} (read : List ℕ → Option T) (tokens : List (List ℕ)) (slots : List T)
    → slots_by read tokens ≡ Some slots → sum (lengths_in tokens) ≡ length slots
lengths_all read tokens slots is =
    ap sum (sym (lengths-counted tokens)) ∙ sum_here (lengths_from 0 tokens) (slots_by read tokens) slots (sum-lengths read 0 tokens) is

-- ---- one step of the loop

slot_first : (n : ℕ) (token : List ℕ) (tokens : List (List ℕ)) → ends_chunk token ≡ false
    → lengths_from n (token ∷ tokens) ≡ lengths_behind fronts.Slot n tokens
slot_first n token tokens e = rw e refl

bar_first : (n : ℕ) (token : List ℕ) (tokens : List (List ℕ)) → ends_chunk token ≡ true
    → lengths_from n (token ∷ tokens) ≡ lengths_behind fronts.Bar n tokens
bar_first n token tokens e = rw e refl

-- a slot in front of a line, and a bar
pub slot-front : (n : ℕ) (token rest line : List ℕ) → words_in line ≡ token ∷ words_in rest → ends_chunk token ≡ false
    → lengths_from n (words_in line) ≡ lengths_behind fronts.Slot n (words_in rest)
slot-front n token rest line cut e = ap (lengths_from n) cut ∙ slot_first n token (words_in rest) e

pub bar-front : (n : ℕ) (token rest line : List ℕ) → words_in line ≡ token ∷ words_in rest → ends_chunk token ≡ true
    → lengths_from n (words_in line) ≡ lengths_behind fronts.Bar n (words_in rest)
bar-front n token rest line cut e = ap (lengths_from n) cut ∙ bar_first n token (words_in rest) e

-- the end of the line ends the last chunk
pub lengths-end : (n : ℕ) (old new : List ℕ) (rest : List ℕ) (tokens : List (List ℕ)) → length rest ≡ 0 → new ≡ old ++ closed n
    → old ++ lengths_from n (words_in rest) ≡ lengths_from 0 tokens → new ≡ lengths_in tokens
lengths-end n old new [] tokens done made whole_is = made ∙ whole_is ∙ lengths-counted tokens
lengths-end n old new (byte ∷ bytes) tokens done made whole_is = absurd (omega arith)

-- ---- parts of a chunk

joined-more : (chunks : List (List (Option Value))) (chunk : List (Option Value)) → joined (λ c. c) (chunks ++ chunk ∷ []) ≡ joined (λ c. c) chunks ++ chunk
joined-more [] chunk = append-nil chunk
joined-more (c ∷ chunks) chunk = ap (λ (xs : List (Option Value)). c ++ xs) (joined-more chunks chunk) ∙ sym (append_assoc c (joined (λ c. c) chunks) chunk)

-- one part more of the slots
pub parts-step : (whole : List (Option Value)) (done new : List (List (Option Value))) (start len : ℕ) (part : List (Option Value))
    → part ≡ take len (drop start whole) → new ≡ done ++ part ∷ [] → joined (λ c. c) done ≡ take start whole
    → joined (λ c. c) new ≡ take (start + len) whole
parts-step whole done new start len part is made so_far =
    ap (joined (λ c. c)) made ∙ joined-more done part
    ∙ ap (λ (xs : List (Option Value)). xs ++ part) so_far
    ∙ ap (λ (xs : List (Option Value)). take start whole ++ xs) is
    ∙ sym (take-add start len whole)

-- and of the lengths
pub lengths-step : (lengths : List ℕ) (done new : List (List (Option Value))) (i : ℕ) (part : List (Option Value))
    → i < length lengths → length part ≡ get_or lengths i 0 → new ≡ done ++ part ∷ []
    → lengths_of (λ c. c) done ++ drop i lengths ≡ lengths
    → lengths_of (λ c. c) new ++ drop (i + 1) lengths ≡ lengths
lengths-step lengths done new i part inside long made whole_is =
    ap (λ (cs : List (List (Option Value))). lengths_of (λ c. c) cs ++ drop (i + 1) lengths) made
    ∙ ap (λ (ns : List ℕ). ns ++ drop (i + 1) lengths) (map-append (λ (c : List (Option Value)). length c) done (part ∷ []))
    ∙ append_assoc (lengths_of (λ c. c) done) (length part ∷ []) (drop (i + 1) lengths)
    ∙ ap (λ (n : ℕ). lengths_of (λ c. c) done ++ n ∷ drop (i + 1) lengths) long
    ∙ ap (λ (ns : List ℕ). lengths_of (λ c. c) done ++ ns) (sym (drop_more lengths i 0 inside))
    ∙ whole_is

-- the lengths from one on
pub sum-drop : (lengths : List ℕ) (i : ℕ) → i < length lengths → sum (drop i lengths) ≡ get_or lengths i 0 + sum (drop (i + 1) lengths)
sum-drop lengths i inside = sum_by-drop_more (λ x. x) lengths i 0 inside
