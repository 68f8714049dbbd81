-- Laws of slots that are kept as values and bits.
use Rattle.std.specs.Prelude.{◌≡◌, ◌+◌, ◌≤◌, ◌<◌, ℕ, ℤ, Bool, count_by, is_none, is_some, if◌then◌else◌, List, [], ◌∷◌, ◌++◌, Option, Some, None, length, take, drop, slice_index_or, zero, suc}
use Rattle.std.proofs.Common.{refl, ap, sym, ◌∙◌, arith, add-zero, get_or, length-take, length-drop}
use Rattle.std.proofs.lemmas.List.{get_or-take, get_or-drop}
use Rattle.std.specs.Prelude.{◌≢◌, ◌*◌, ◌/◌, ◌%◌, ◌^◌, ◌==◌, slice_set}
use Rattle.std.specs.Int.{bit_at}
use Rattle.std.specs.List.{list_all}
use Rattle.std.proofs.lemmas.List.Sums.{sum_by-cons}
use Rattle.std.proofs.Common.{inl, inr, mod-lt, length-set, set-set, get_or-set_same, get_or-set_other}
use Rattle.std.proofs.lemmas.Bool.{cases_eq}
use Rattle.std.proofs.lemmas.Nat.{div-add-mod', div_below}
use Rattle.std.proofs.lemmas.List.{drop-set-add}
use Rattle.std.proofs.Math.Seq.{take-set-lt}
use Rattle.std.specs.Prelude.{Result, Ok, Err, OnOk, OnErr, replicate, ◌-◌, false, true, ◌&&◌}
use Rattle.std.proofs.lemmas.List.{length-replicate, get_or-replicate}
use Rattle.std.proofs.lemmas.Nat.Bits.{bit_at_ones, bit_at-zero}
use Rattle.col_buffer.specs.Validity.{AddsValid, AddsRange, masked, slot_if, valid_at, valid_count, Reaches, SetsBit, SetsValid}
use Rattle.col_model.specs.Value.{Value, whole}
use Rattle.std.proofs.lemmas.List.{drop-take, take-take, drop-drop, drop_more, append_assoc}

-- a part of a part
pub part-part : {X : Type 0} (xs : List X) (o m k n : ℕ) → k + n ≤ m → take n (drop k (take m (drop o xs))) ≡ take n (drop (o + k) xs)
part-part xs o m k n h =
    let is : m ≡ k + (m - k) = omega arith in
    ap (λ (z : ℕ). take n (drop k (take z (drop o xs)))) is
    ∙ ap (take n) (drop-take k (m - k) (drop o xs))
    ∙ take-take n (m - k) (drop k (drop o xs)) (omega arith)
    ∙ ap (take n) (drop-drop k o xs)

module _ {T : Type 0} (reading : T → ℤ) (words : Option (List ℕ)) where
  pub length-masked : (i : ℕ) (xs : List T) → length (masked reading words i xs) ≡ length xs
  length-masked i [] = refl
  length-masked i (x ∷ xs) = ap suc (length-masked (i + 1) xs)

  -- the slot at a place
  pub get_or-masked : (i : ℕ) (xs : List T) (k : ℕ) (d : T) → k < length xs → get_or (masked reading words i xs) k None ≡ slot_if reading (valid_at words (i + k)) (get_or xs k d)
  get_or-masked i [] k d h = absurd (omega arith)
  get_or-masked i (x ∷ xs) zero d h = ap (λ (n : ℕ). slot_if reading (valid_at words n) x) (sym (add-zero i))
  get_or-masked i (x ∷ xs) (suc k) d h =
      let is : i + 1 + k ≡ i + suc k = omega arith in
      get_or-masked (i + 1) xs k d (omega arith) ∙ ap (λ (n : ℕ). slot_if reading (valid_at words n) (get_or xs k d)) is

  -- more values behind
  pub masked-append : (i : ℕ) (xs ys : List T) → masked reading words i (xs ++ ys) ≡ masked reading words i xs ++ masked reading words (i + length xs) ys
  masked-append i [] ys = ap (λ (n : ℕ). masked reading words n ys) (sym (add-zero i))
  masked-append i (x ∷ xs) ys =
      let is : i + 1 + length xs ≡ i + suc (length xs) = omega arith in
      ap (λ (zs : List (Option Value)). slot_if reading (valid_at words i) x ∷ zs)
      (masked-append (i + 1) xs ys ∙ ap (λ (n : ℕ). masked reading words (i + 1) xs ++ masked reading words n ys) is)

  pub masked-drop : (i : ℕ) (xs : List T) (k : ℕ) → drop k (masked reading words i xs) ≡ masked reading words (i + k) (drop k xs)
  masked-drop i xs zero = ap (λ (n : ℕ). masked reading words n xs) (sym (add-zero i))
  masked-drop i [] (suc k) = refl
  masked-drop i (x ∷ xs) (suc k) =
      let is : i + 1 + k ≡ i + suc k = omega arith in
      masked-drop (i + 1) xs k ∙ ap (λ (n : ℕ). masked reading words n (drop k xs)) is

  pub masked-take : (i : ℕ) (xs : List T) (n : ℕ) → take n (masked reading words i xs) ≡ masked reading words i (take n xs)
  masked-take i xs zero = refl
  masked-take i [] (suc n) = refl
  masked-take i (x ∷ xs) (suc n) = ap (λ (ys : List (Option Value)). slot_if reading (valid_at words i) x ∷ ys) (masked-take (i + 1) xs n)

  -- how long the slots of a part are
  pub length-part : (values : List T) (o m : ℕ) → o + m ≤ length values → length (masked reading words o (take m (drop o values))) ≡ m
  length-part values o m h = length-masked o (take m (drop o values)) ∙ omega (arith, length-take m (drop o values), length-drop o values)

  -- a slot of a part
  pub get_or-part : (values : List T) (o m k : ℕ) (d : T) → o + m ≤ length values → k < m
      → get_or (masked reading words o (take m (drop o values))) k None ≡ slot_if reading (valid_at words (o + k)) (get_or values (o + k) d)
  get_or-part values o m k d h less =
      get_or-masked o (take m (drop o values)) k d (omega (arith, length-take m (drop o values), length-drop o values))
      ∙ ap (slot_if reading (valid_at words (o + k))) (get_or-take m (drop o values) k d less ∙ get_or-drop o values k d)

  -- a part of a part
  pub masked-part : (values : List T) (o m k n : ℕ) → k + n ≤ m
      → masked reading words (o + k) (take n (drop (o + k) values)) ≡ take n (drop k (masked reading words o (take m (drop o values))))
  masked-part values o m k n h =
      ap (masked reading words (o + k)) (sym (part-part values o m k n h))
      ∙ sym (ap (take n) (masked-drop o (take m (drop o values)) k) ∙ masked-take (o + k) (drop k (take m (drop o values))) n)

  -- a place of the slots is one of the part
  pub place_in : (values : List T) (o m k : ℕ) (slots : List (Option Value)) → o + m ≤ length values → masked reading words o (take m (drop o values)) ≡ slots
      → k ≤ length slots → k ≤ m
  place_in values o m k slots h e less = omega (arith, ap length e, length-part values o m h)

  -- how many slots there are
  pub size_is : (values : List T) (o m : ℕ) (slots : List (Option Value)) → o + m ≤ length values → masked reading words o (take m (drop o values)) ≡ slots → length slots ≡ m
  size_is values o m slots h e = sym (ap length e) ∙ length-part values o m h

  -- what `get` answers
  pub got : (values : List T) (o m k : ℕ) (slots : List (Option Value)) (b : Bool) (x : T) → o + m ≤ length values → masked reading words o (take m (drop o values)) ≡ slots
      → k < length slots → b ≡ valid_at words (o + k) → x ≡ get_or values (o + k) x → slot_if reading b x ≡ slice_index_or slots k None
  got values o m k slots b x h e less valid is =
      let inside : k < m = omega (arith, ap length e, length-part values o m h) in
      ap (λ (c : Bool). slot_if reading c x) valid ∙ ap (slot_if reading (valid_at words (o + k))) is
      ∙ sym (get_or-part values o m k x h inside) ∙ ap (λ (ys : List (Option Value)). get_or ys k None) e

pub Reaches-le : (words : Option (List ℕ)) (n k : ℕ) → Reaches words n → k ≤ n → Reaches words k
Reaches-le None n k h le = tt
Reaches-le (Some ws) n k h le = omega arith

-- the slots of a part, kept in equal values and bits
pub part_is : {T : Type 0} (reading : T → ℤ) (words copies : Option (List ℕ)) (values others : List T) (o m k n : ℕ) (slots : List (Option Value)) → others ≡ values → copies ≡ words
    → o + m ≤ length values → masked reading words o (take m (drop o values)) ≡ slots → k + n ≤ length slots
    → masked reading copies (o + k) (take n (drop (o + k) others)) ≡ take n (drop k slots)
part_is {T} reading words copies values others o m k n slots p q h e room =
    let size = size_is reading words values o m slots h e in
    ap (λ (ys : List T). masked reading copies (o + k) (take n (drop (o + k) ys))) p
    ∙ ap (λ (ws : Option (List ℕ)). masked reading ws (o + k) (take n (drop (o + k) values))) q
    ∙ masked-part reading words values o m k n (omega arith)
    ∙ ap (λ (ys : List (Option Value)). take n (drop k ys)) e

-- to write a word with one other bit is to write that bit
pub sets_bit : (old new : List ℕ) (place word : ℕ) (valid : Bool) → place < 64 * length old → new ≡ slice_set old (place / 64) word
    → (bit_at word (place % 64) == 1) ≡ valid
    → ((i : ℕ) → i < 64 → i ≢ place % 64 → bit_at word i ≡ bit_at (get_or old (place / 64) 0) i)
    → SetsBit old new place valid
sets_bit old new place word valid h e here others = record {
  long = ap length e ∙ length-set old (place / 64) word;
  here = ap (λ (l : List ℕ). bit_at (get_or l (place / 64) 0) (place % 64) == 1) e
      ∙ ap (λ (n : ℕ). bit_at n (place % 64) == 1) (get_or-set_same old (place / 64) word 0 inside) ∙ here;
  others = λ j ne. elim (cases_eq (j / 64) (place / 64)) [
    | inl same ↦
        let small : j % 64 < 64 = mod-lt j (omega arith) in
        let apart : j % 64 ≢ place % 64 = λ equal. ne (sym (div-add-mod' j 64) ∙ ap (λ (q : ℕ). q * 64 + j % 64) same ∙ ap (λ (r : ℕ). place / 64 * 64 + r) equal ∙ div-add-mod' place 64) in
        ap (λ (l : List ℕ). bit_at (get_or l (j / 64) 0) (j % 64) == 1) e
        ∙ ap (λ (q : ℕ). bit_at (get_or (slice_set old (place / 64) word) q 0) (j % 64) == 1) same
        ∙ ap (λ (n : ℕ). bit_at n (j % 64) == 1) (get_or-set_same old (place / 64) word 0 inside)
        ∙ ap (λ (n : ℕ). n == 1) (others (j % 64) small apart)
        ∙ ap (λ (q : ℕ). bit_at (get_or old q 0) (j % 64) == 1) (sym same)
    | inr apart ↦
        ap (λ (l : List ℕ). bit_at (get_or l (j / 64) 0) (j % 64) == 1) e
        ∙ ap (λ (n : ℕ). bit_at n (j % 64) == 1) (get_or-set_other old (place / 64) (j / 64) word 0 apart)
  ];
}
  where
    inside : place / 64 < length old
    inside = div_below place 64 (length old) (omega arith) (omega arith)

-- ---- writes

module _ {T : Type 0} (reading : T → ℤ) where
  -- one value written
  pub masked-set_value : (words : Option (List ℕ)) (i : ℕ) (xs : List T) (k : ℕ) (x : T)
      → masked reading words i (slice_set xs k x) ≡ slice_set (masked reading words i xs) k (slot_if reading (valid_at words (i + k)) x)
  masked-set_value words i [] k x = refl
  masked-set_value words i (y ∷ ys) zero x = ap (λ (n : ℕ). slot_if reading (valid_at words n) x ∷ masked reading words (i + 1) ys) (sym (add-zero i)) ∙ shift (add-zero i)
    where
      shift : i + 0 ≡ i → slot_if reading (valid_at words (i + 0)) x ∷ masked reading words (i + 1) ys ≡ slot_if reading (valid_at words (i + 0)) x ∷ masked reading words (i + 1) ys
      shift e = refl
  masked-set_value words i (y ∷ ys) (suc k) x =
      let is : i + 1 + k ≡ i + suc k = omega arith in
      ap (λ (zs : List (Option Value)). slot_if reading (valid_at words i) y ∷ zs)
      (masked-set_value words (i + 1) ys k x ∙ ap (λ (n : ℕ). slice_set (masked reading words (i + 1) ys) k (slot_if reading (valid_at words n) x)) is)

  -- bits that differ at none of these places
  pub masked-same : (old new : Option (List ℕ)) (i : ℕ) (xs : List T) → ((j : ℕ) → i ≤ j → j < i + length xs → valid_at new j ≡ valid_at old j)
      → masked reading new i xs ≡ masked reading old i xs
  masked-same old new i [] h = refl
  masked-same old new i (x ∷ xs) h =
      ap (λ (b : Bool). slot_if reading b x ∷ masked reading new (i + 1) xs) (h i (omega arith) (omega arith))
      ∙ ap (λ (zs : List (Option Value)). slot_if reading (valid_at old i) x ∷ zs) (masked-same old new (i + 1) xs (λ j low high. h j (omega arith) (omega arith)))

  -- one bit written
  pub masked-set_bit : (old new : Option (List ℕ)) (b : Bool) (i : ℕ) (xs : List T) (k : ℕ) (d : T) → k < length xs
      → valid_at new (i + k) ≡ b → ((j : ℕ) → j ≢ i + k → j < i + length xs → valid_at new j ≡ valid_at old j)
      → masked reading new i xs ≡ slice_set (masked reading old i xs) k (slot_if reading b (get_or xs k d))
  masked-set_bit old new b i [] k d h here others = absurd (omega arith)
  masked-set_bit old new b i (x ∷ xs) zero d h here others =
      let at : valid_at new i ≡ b = ap (valid_at new) (sym (add-zero i)) ∙ here in
      ap (λ (c : Bool). slot_if reading c x ∷ masked reading new (i + 1) xs) at
      ∙ ap (λ (zs : List (Option Value)). slot_if reading b x ∷ zs) (masked-same old new (i + 1) xs (λ j low high. others j (λ e. absurd (omega arith)) (omega arith)))
  masked-set_bit old new b i (x ∷ xs) (suc k) d h here others =
      let is : i + suc k ≡ i + 1 + k = omega arith in
      ap (λ (c : Bool). slot_if reading c x ∷ masked reading new (i + 1) xs) (others i (λ e. absurd (omega arith)) (omega arith))
      ∙ ap (λ (zs : List (Option Value)). slot_if reading (valid_at old i) x ∷ zs)
      (masked-set_bit old new b (i + 1) xs k d (omega arith) (ap (valid_at new) (sym is) ∙ here) (λ j ne high. others j (λ e. ne (e ∙ is)) (omega arith)))

-- words of ones, with one bit cleared
pub clears-one : (count place word : ℕ) (new : List ℕ) → place < count → new ≡ slice_set (replicate (count / 64 + 1) (2 ^ 64 - 1)) (place / 64) word
    → (bit_at word (place % 64) == 1) ≡ false
    → ((i : ℕ) → i < 64 → i ≢ place % 64 → bit_at word i ≡ bit_at (2 ^ 64 - 1) i)
    → SetsValid None (Some new) count place false
clears-one count place word new h e here others =
    let ones : List ℕ = replicate (count / 64 + 1) (2 ^ 64 - 1) in
    let long : length ones ≡ count / 64 + 1 = length-replicate (count / 64 + 1) (2 ^ 64 - 1) in
    let split : count / 64 * 64 + count % 64 ≡ count = div-add-mod' count 64 in
    let rest : count % 64 < 64 = mod-lt count (omega arith) in
    let reached : place < 64 * length ones = omega arith in
    let at : get_or ones (place / 64) 0 ≡ 2 ^ 64 - 1 = get_or-replicate (count / 64 + 1) (place / 64) (2 ^ 64 - 1) 0 (div_below place 64 (count / 64 + 1) (omega arith) (omega arith)) in
    let s : SetsBit ones new place false = sets_bit ones new place word false reached e here (λ i less ne. others i less ne ∙ ap (λ (n : ℕ). bit_at n i) (sym at)) in
    record {
      reach = omega (arith, s.long);
      here = s.here;
      others = λ j ne less.
          let small : j % 64 < 64 = mod-lt j (omega arith) in
          let one : get_or ones (j / 64) 0 ≡ 2 ^ 64 - 1 = get_or-replicate (count / 64 + 1) (j / 64) (2 ^ 64 - 1) 0 (div_below j 64 (count / 64 + 1) (omega arith) (omega arith)) in
          s.others j ne ∙ ap (λ (n : ℕ). bit_at n (j % 64) == 1) one ∙ ap (λ (n : ℕ). n == 1) (bit_at_ones 64 (j % 64) small);
    }

-- ---- what `set_slot` leaves

-- a value and its bit written
pub set_part : {T : Type 0} (reading : T → ℤ) (old new : Option (List ℕ)) (b : Bool) (values written : List T) (o m k : ℕ) (x : T) (slots : List (Option Value))
    → o + m ≤ length values → masked reading old o (take m (drop o values)) ≡ slots → k < length slots
    → written ≡ slice_set values (o + k) x → SetsValid old new (o + m) (o + k) b
    → masked reading new o (take m (drop o written)) ≡ slice_set slots k (slot_if reading b x)
set_part {T} reading old new b values written o m k x slots h e less w s =
    let size = size_is reading old values o m slots h e in
    let inside : k < m = omega arith in
    let part : List T = take m (drop o values) in
    let long : length part ≡ m = omega (arith, length-take m (drop o values), length-drop o values) in
    let stays : take m (drop o written) ≡ slice_set part k x =
    ap (λ (ys : List T). take m (drop o ys)) w ∙ ap (take m) (drop-set-add o values k x) ∙ take-set-lt m (drop o values) k x inside
    in
    let wide : length (slice_set part k x) ≡ m = length-set part k x ∙ long in
    ap (masked reading new o) stays
    ∙ masked-set_bit reading old new b o (slice_set part k x) k x (omega arith) s.here (λ j ne high. s.others j ne (omega arith))
    ∙ ap (λ (y : T). slice_set (masked reading old o (slice_set part k x)) k (slot_if reading b y)) (get_or-set_same part k x x (omega arith))
    ∙ ap (λ (ys : List (Option Value)). slice_set ys k (slot_if reading b x)) (masked-set_value reading old o part k x ∙ ap (λ (ys : List (Option Value)). slice_set ys k (slot_if reading (valid_at old (o + k)) x)) e)
    ∙ set-set slots k (slot_if reading (valid_at old (o + k)) x) (slot_if reading b x)

-- one bit cleared
masked-clear_bit : {T : Type 0} (reading : T → ℤ) (old new : Option (List ℕ)) (i : ℕ) (xs : List T) (k : ℕ) → k < length xs
    → valid_at new (i + k) ≡ false → ((j : ℕ) → j ≢ i + k → j < i + length xs → valid_at new j ≡ valid_at old j)
    → masked reading new i xs ≡ slice_set (masked reading old i xs) k None
masked-clear_bit reading old new i [] k h here others = absurd (omega arith)
masked-clear_bit reading old new i (x ∷ xs) zero h here others = masked-set_bit reading old new false i (x ∷ xs) zero x h here others
masked-clear_bit reading old new i (x ∷ xs) (suc k) h here others = masked-set_bit reading old new false i (x ∷ xs) (suc k) x h here others

pub clear_part : {T : Type 0} (reading : T → ℤ) (old new : Option (List ℕ)) (values : List T) (o m k : ℕ) (slots : List (Option Value))
    → o + m ≤ length values → masked reading old o (take m (drop o values)) ≡ slots → k < length slots → SetsValid old new (o + m) (o + k) false
    → masked reading new o (take m (drop o values)) ≡ slice_set slots k None
clear_part {T} reading old new values o m k slots h e less s =
    let size = size_is reading old values o m slots h e in
    let long : length (take m (drop o values)) ≡ m = omega (arith, length-take m (drop o values), length-drop o values) in
    masked-clear_bit reading old new o (take m (drop o values)) k (omega arith) s.here (λ j ne high. s.others j ne (omega arith))
    ∙ ap (λ (ys : List (Option Value)). slice_set ys k None) e

pub on_ok : {T E P Q : Type 0} (r : Result T E) → (P → Q) → OnOk r P → OnOk r Q
on_ok (Ok x) f p = f p
on_ok (Err e) f p = tt

-- one more slot
pub masked-push : {T : Type 0} (reading : T → ℤ) (old new : Option (List ℕ)) (xs : List T) (x : T) (valid : Bool) → AddsValid old new (length xs) valid
    → masked reading new 0 (xs ++ x ∷ []) ≡ masked reading old 0 xs ++ slot_if reading valid x ∷ []
masked-push reading old new xs x valid a =
    let is : 0 + length xs ≡ length xs = omega arith in
    masked-append reading new 0 xs (x ∷ [])
    ∙ ap (λ (n : ℕ). masked reading new 0 xs ++ slot_if reading (valid_at new n) x ∷ []) is
    ∙ ap (λ (zs : List (Option Value)). zs ++ slot_if reading (valid_at new (length xs)) x ∷ []) (masked-same reading old new 0 xs (λ j low high. a.others j (omega arith)))
    ∙ ap (λ (b : Bool). masked reading old 0 xs ++ slot_if reading b x ∷ []) a.here

-- values with no words, behind each other
pub plain-append : {T : Type 0} (reading : T → ℤ) (bits validity : Option (List ℕ)) (i : ℕ) (xs ys : List T) → bits ≡ None → validity ≡ None
    → masked reading validity 0 (xs ++ ys) ≡ masked reading validity 0 xs ++ masked reading bits i ys
plain-append reading bits validity i xs ys e f =
    masked-append reading validity 0 xs ys
    ∙ ap (λ (zs : List (Option Value)). masked reading validity 0 xs ++ zs)
    (ap (λ (ws : Option (List ℕ)). masked reading ws (0 + length xs) ys) f ∙ moved (0 + length xs) i ys
    ∙ ap (λ (ws : Option (List ℕ)). masked reading ws i ys) (sym e))
  where
    moved : (i j : ℕ) (ys : List _) → masked reading None i ys ≡ masked reading None j ys
    moved i j [] = refl
    moved i j (y ∷ ys) = ap (λ (zs : List (Option Value)). Some (whole (reading y)) ∷ zs) (moved (i + 1) (j + 1) ys)

-- the first slot of a part
pub masked-read : {T : Type 0} (reading : T → ℤ) (bits : Option (List ℕ)) (from : List T) (place end : ℕ) (x : T) (b : Bool) → place < end → place < length from → x ≡ get_or from place x → b ≡ valid_at bits place
    → masked reading bits place (take (end - place) (drop place from)) ≡ slot_if reading b x ∷ masked reading bits (place + 1) (take (end - (place + 1)) (drop (place + 1) from))
masked-read {T} reading bits from place end x b below inside is valid =
    let count : end - place ≡ suc (end - (place + 1)) = omega arith in
    ap (λ (n : ℕ). masked reading bits place (take n (drop place from))) count
    ∙ ap (λ (ys : List T). masked reading bits place (take (suc (end - (place + 1))) ys)) (drop_more from place x inside)
    ∙ ap (λ (y : T). slot_if reading (valid_at bits place) y ∷ masked reading bits (place + 1) (take (end - (place + 1)) (drop (place + 1) from))) (sym is)
    ∙ ap (λ (c : Bool). slot_if reading c x ∷ masked reading bits (place + 1) (take (end - (place + 1)) (drop (place + 1) from))) (sym valid)

-- a loop's step: what is written and what is left make the whole
pub pushed : {X : Type 0} (new done : List X) (x : X) (rest more whole : List X) → new ≡ done ++ x ∷ [] → more ≡ x ∷ rest → done ++ more ≡ whole → new ++ rest ≡ whole
pushed new done x rest more whole e f g =
    ap (λ (zs : List _). zs ++ rest) e ∙ append_assoc done (x ∷ []) rest ∙ ap (λ (zs : List _). done ++ zs) (sym f) ∙ g

-- the first of some of a list
pub slots-read : {X : Type 0} (xs : List X) (place end : ℕ) (d : X) → place < end → end ≤ length xs
    → take (end - place) (drop place xs) ≡ get_or xs place d ∷ take (end - (place + 1)) (drop (place + 1) xs)
slots-read {X} xs place end d below inside =
    let count : end - place ≡ suc (end - (place + 1)) = omega arith in
    ap (λ (n : ℕ). take n (drop place xs)) count
    ∙ ap (λ (ys : List X). take (suc (end - (place + 1))) ys) (drop_more xs place d (omega arith))

-- all null
pub masked-nulls : {T : Type 0} (reading : T → ℤ) (words : Option (List ℕ)) (i : ℕ) (xs : List T) → ((j : ℕ) → i ≤ j → j < i + length xs → valid_at words j ≡ false)
    → masked reading words i xs ≡ replicate (length xs) None
masked-nulls reading words i [] h = refl
masked-nulls reading words i (x ∷ xs) h =
    ap (λ (b : Bool). slot_if reading b x ∷ masked reading words (i + 1) xs) (h i (omega arith) (omega arith))
    ∙ ap (λ (zs : List (Option Value)). None ∷ zs) (masked-nulls reading words (i + 1) xs (λ j low high. h j (omega arith) (omega arith)))

-- the words are 0, and so no bit is set
pub no_bits : (n : ℕ) (j : ℕ) → valid_at (Some (replicate {A = ℕ} n 0)) j ≡ false
no_bits n j = ap (λ (z : ℕ). bit_at z (j % 64) == 1) (zero_in n (j / 64)) ∙ ap (λ (z : ℕ). z == 1) (bit_at-zero (j % 64))
  where
    zero_in : (n i : ℕ) → get_or (replicate {A = ℕ} n 0) i 0 ≡ 0
    zero_in zero i = refl
    zero_in (suc n) zero = refl
    zero_in (suc n) (suc i) = zero_in n i

-- the words of a chunk of nulls
pub nulls_are : {T : Type 0} (reading : T → ℤ) (values : List T) (words : List ℕ) (x : T) (n m : ℕ)
    → values ≡ replicate n x → words ≡ replicate m 0
    → masked reading (Some words) 0 values ≡ replicate n None
nulls_are {T} reading values words x n m e f =
    ap (λ (ws : List ℕ). masked reading (Some ws) 0 values) f
    ∙ ap (masked reading (Some (replicate m 0)) 0) e
    ∙ masked-nulls reading (Some (replicate m 0)) 0 (replicate n x) (λ j low high. no_bits m j)
    ∙ ap (λ (k : ℕ). replicate k None) (length-replicate n x)

-- one value so many times
pub repeated_are : {T : Type 0} (reading : T → ℤ) (i n : ℕ) (x : T) → masked reading None i (replicate n x) ≡ replicate n (Some (whole (reading x)))
repeated_are reading i zero x = refl
repeated_are reading i (suc n) x = ap (λ (zs : List (Option Value)). Some (whole (reading x)) ∷ zs) (repeated_are reading (i + 1) n x)

-- a value of a place whose bit is set, or is not, written
pub value_part : {T : Type 0} (reading : T → ℤ) (words : Option (List ℕ)) (b : Bool) (values written : List T) (o m k : ℕ) (x : T) (slots : List (Option Value))
    → o + m ≤ length values → masked reading words o (take m (drop o values)) ≡ slots → k < length slots
    → b ≡ valid_at words (o + k) → written ≡ slice_set values (o + k) x
    → masked reading words o (take m (drop o written)) ≡ slice_set slots k (slot_if reading b x)
value_part {T} reading words b values written o m k x slots h e less valid w =
    let size = size_is reading words values o m slots h e in
    let stays : take m (drop o written) ≡ slice_set (take m (drop o values)) k x =
    ap (λ (ys : List T). take m (drop o ys)) w ∙ ap (take m) (drop-set-add o values k x) ∙ take-set-lt m (drop o values) k x (omega arith)
    in
    ap (masked reading words o) stays
    ∙ masked-set_value reading words o (take m (drop o values)) k x
    ∙ ap (λ (ys : List (Option Value)). slice_set ys k (slot_if reading (valid_at words (o + k)) x)) e
    ∙ ap (λ (c : Bool). slice_set slots k (slot_if reading c x)) (sym valid)

pub on_err : {T E P Q : Type 0} (r : Result T E) → (P → Q) → OnErr r P → OnErr r Q
on_err (Ok x) f p = tt
on_err (Err e) f p = f p

-- so many slots of others behind those that were written
pub masked-range : {T : Type 0} (reading : T → ℤ) (old new from : Option (List ℕ)) (start : ℕ) (xs ys : List T) → AddsRange old new (length xs) from start (length ys)
    → masked reading new 0 (xs ++ ys) ≡ masked reading old 0 xs ++ masked reading from start ys
masked-range {T} reading old new from start xs ys a =
    let is : 0 + length xs ≡ length xs = omega arith in
    masked-append reading new 0 xs ys
    ∙ ap (λ (n : ℕ). masked reading new 0 xs ++ masked reading new n ys) is
    ∙ ap (λ (zs : List (Option Value)). zs ++ masked reading new (length xs) ys) (masked-same reading old new 0 xs (λ j low high. a.others j (omega arith)))
    ∙ ap (λ (zs : List (Option Value)). masked reading old 0 xs ++ zs) (moved (length xs) start ys a.here)
  where
    moved : (i j : ℕ) (zs : List T) → ((k : ℕ) → k < length zs → valid_at new (i + k) ≡ valid_at from (j + k)) → masked reading new i zs ≡ masked reading from j zs
    moved i j [] same = refl
    moved i j (z ∷ zs) same =
        let first : valid_at new i ≡ valid_at from j = ap (valid_at new) (sym (add-zero i)) ∙ same 0 (omega arith) ∙ ap (valid_at from) (add-zero j) in
        ap (λ (b : Bool). slot_if reading b z ∷ masked reading new (i + 1) zs) first
        ∙ ap (λ (ss : List (Option Value)). slot_if reading (valid_at from j) z ∷ ss) (moved (i + 1) (j + 1) zs (λ k less.
        let a : i + 1 + k ≡ i + suc k = omega arith in
        let b : j + suc k ≡ j + 1 + k = omega arith in
        ap (valid_at new) a ∙ same (suc k) (omega arith) ∙ ap (valid_at from) b))

-- each slot of values passes a test that each of their integers and null pass
pub all-masked : {T : Type 0} (reading : T → ℤ) (test : Option Value → Bool) → test None ≡ true → ((x : T) → test (Some (whole (reading x))) ≡ true)
    → (words : Option (List ℕ)) (i : ℕ) (xs : List T) → list_all test (masked reading words i xs) ≡ true
all-masked reading test none some words i [] = refl
all-masked reading test none some words i (x ∷ xs) =
    ap (λ (b : Bool). b && list_all test (masked reading words (i + 1) xs)) (each (valid_at words i)) ∙ all-masked reading test none some words (i + 1) xs
  where
    each : (b : Bool) → test (slot_if reading b x) ≡ true
    each true = some x
    each false = none

-- nulls are the places that aren't valid
pub nulls-masked : {T : Type 0} (reading : T → ℤ) (words : Option (List ℕ)) (i : ℕ) (xs : List T) → count_by is_none (masked reading words i xs) + valid_count words i (length xs) ≡ length xs
nulls-masked reading words i [] = refl
nulls-masked reading words i (x ∷ xs) = one (valid_at words i) (nulls-masked reading words (i + 1) xs)
  where
    one : (b : Bool) → count_by is_none (masked reading words (i + 1) xs) + valid_count words (i + 1) (length xs) ≡ length xs
        → count_by is_none (slot_if reading b x ∷ masked reading words (i + 1) xs) + ((if b then 1 else 0) + valid_count words (i + 1) (length xs)) ≡ suc (length xs)
    one true e = omega (arith, sum_by-cons (λ s. if is_none s then 1 else 0) (slot_if reading true x) (masked reading words (i + 1) xs), e)
    one false e = omega (arith, sum_by-cons (λ s. if is_none s then 1 else 0) (slot_if reading false x) (masked reading words (i + 1) xs), e)

-- whether the slot of a value is valid
pub valid-slot : {T : Type 0} (reading : T → ℤ) (b : Bool) (x : T) → is_some (slot_if reading b x) ≡ b
valid-slot reading true x = refl
valid-slot reading false x = refl

pub ruleset slot_laws = (length-masked, length-part, masked-append, masked-push, masked-part, Reaches-le, repeated_are)
