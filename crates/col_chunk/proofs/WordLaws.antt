-- The laws by which chunks of words close.
use Rattle.std.specs.Prelude.{◌≡◌, ◌+◌, ◌-◌, ◌≤◌, ◌<◌, ℕ, zero, suc, ℤ, List, [], ◌∷◌, ◌++◌, Option, Some, None, length, take, drop, is_some, is_none, count_by, slice_index_or, Result, Ok, Err, OnOk}
use Rattle.std.proofs.Common.{refl, subst, ap, sym, ◌∙◌, arith, add-zero, length-take, length-drop}
use Rattle.std.proofs.lemmas.List.{length-map, take_all}
use Rattle.col_chunk.specs.Chunks.{word_slots}
use Rattle.col_model.specs.Value.{Value, whole}
use Rattle.col_model.specs.ChunkCalls.{null_count}
use Rattle.col_buffer.specs.Validity.{AddsRange, masked, valid_at, valid_count}
use Rattle.col_buffer.proofs.SlotLaws.{length-masked, length-part, masked-append, masked-push, masked-part, masked-range, nulls-masked, part_is, size_is, valid-slot, Reaches-le, repeated_are}

-- a part of others behind values
pub copied : {T : Type 0} (reading : T → ℤ) (old new from : Option (List ℕ)) (xs all : List T) (place start len : ℕ) → place ≡ length xs → start + len ≤ length all → AddsRange old new place from start len
    → masked reading new 0 (xs ++ take len (drop start all)) ≡ masked reading old 0 xs ++ masked reading from start (take len (drop start all))
copied {T} reading old new from xs all place start len e room a =
    let piece : List T = take len (drop start all) in
    let long : len ≡ length piece = omega (arith, length-take len (drop start all), length-drop start all) in
    let here : AddsRange old new (length xs) from start len = subst (λ (p : ℕ). AddsRange old new p from start len) e a in
    masked-range reading old new from start xs piece (subst (λ (n : ℕ). AddsRange old new (length xs) from start n) long here)

-- whether a slot is valid
valid-masked : {T : Type 0} (reading : T → ℤ) (words : Option (List ℕ)) (i : ℕ) (xs : List T) (k : ℕ) → k < length xs → is_some (slice_index_or (masked reading words i xs) k None) ≡ valid_at words (i + k)
valid-masked reading words i [] k h = absurd (omega arith)
valid-masked reading words i (x ∷ xs) zero h = valid-slot reading (valid_at words i) x ∙ ap (valid_at words) (sym (add-zero i))
valid-masked reading words i (x ∷ xs) (suc k) h =
    let is : i + 1 + k ≡ i + suc k = omega arith in
    valid-masked reading words (i + 1) xs k (omega arith) ∙ ap (valid_at words) is

pub valid_in : {T : Type 0} (reading : T → ℤ) (words : Option (List ℕ)) (values : List T) (o m k : ℕ) (slots : List (Option Value)) → o + m ≤ length values
    → masked reading words o (take m (drop o values)) ≡ slots → k < length slots → valid_at words (o + k) ≡ is_some (slice_index_or slots k None)
valid_in reading words values o m k slots room e less =
    let long = length-part reading words values o m room in
    let here : k < length (take m (drop o values)) = omega (arith, ap length e, length-masked reading words o (take m (drop o values))) in
    sym (valid-masked reading words o (take m (drop o values)) k here) ∙ ap (λ (s : List (Option Value)). is_some (slice_index_or s k None)) e

-- how many slots of a part are null
pub nulls_in_part : {T : Type 0} (reading : T → ℤ) (words : Option (List ℕ)) (values : List T) (o m nulls : ℕ) (slots : List (Option Value)) → o + m ≤ length values
    → masked reading words o (take m (drop o values)) ≡ slots → nulls + valid_count words o m ≡ m → nulls ≡ null_count slots
nulls_in_part {T} reading words values o m nulls slots room e counted =
    let piece : List T = take m (drop o values) in
    let long : length piece ≡ m = omega (arith, length-take m (drop o values), length-drop o values) in
    let all = nulls-masked reading words o piece in
    let same : valid_count words o (length piece) ≡ valid_count words o m = ap (valid_count words o) long in
    let is : nulls ≡ count_by is_none (masked reading words o piece) = omega (arith, all, same, long, counted) in
    is ∙ ap (count_by is_none) e

-- what two facts about an answer give
pub on_ok_both : {T E P Q R : Type 0} (r : Result T E) → (P → Q → R) → OnOk r P → OnOk r Q → OnOk r R
on_ok_both (Ok x) f p q = f p q
on_ok_both (Err e) f p q = tt

-- the rest of a part
pub rest_of_part : {T : Type 0} (reading : T → ℤ) (words copies : Option (List ℕ)) (values : List T) (o m k : ℕ) (slots : List (Option Value)) → copies ≡ words → o + m ≤ length values
    → masked reading words o (take m (drop o values)) ≡ slots → k ≤ length slots → masked reading copies (o + k) (take (m - k) (drop (o + k) values)) ≡ drop k slots
rest_of_part reading words copies values o m k slots same room e inside =
    let size = size_is reading words values o m slots room e in
    part_is reading words copies values values o m k (m - k) slots refl same room e (omega arith)
    ∙ take_all (m - k) (drop k slots) (omega (arith, length-drop k slots))

-- words without bits
pub plain-slots : {T : Type 0} (reading : T → ℤ) (i : ℕ) (xs : List T) → masked reading None i xs ≡ word_slots reading xs
plain-slots reading i [] = refl
plain-slots reading i (x ∷ xs) = ap (λ (zs : List (Option Value)). Some (whole (reading x)) ∷ zs) (plain-slots reading (i + 1) xs)

pub length-word_slots : {T : Type 0} (reading : T → ℤ) (xs : List T) → length (word_slots reading xs) ≡ length xs
length-word_slots reading xs = length-map xs (λ x. Some (whole (reading x)))

pub ruleset plain_laws = (plain-slots, length-word_slots)

pub ruleset word_laws = (length-masked, length-part, masked-append, masked-push, masked-part, Reaches-le, repeated_are)
