-- Laws of slots that are kept as bits.
use Rattle.std.specs.Prelude.{◌≡◌, ◌≢◌, ◌+◌, ◌-◌, ◌≤◌, ◌<◌, ℕ, zero, suc, Bool, true, false, ◌&&◌, if◌then◌else◌, List, [], ◌∷◌, ◌++◌, Option, Some, None, length, take, drop, replicate, is_some, is_none, count_by, slice_index_or, slice_set}
use Rattle.std.specs.List.{list_all}
use Rattle.std.proofs.Common.{refl, ap, sym, ◌∙◌, arith, add-zero, inl, inr}
use Rattle.std.proofs.lemmas.Bool.{cases_eq}
use Rattle.std.proofs.lemmas.List.Sums.{sum_by-cons}
use Rattle.col_types.specs.declared.data_type.DataType.{Boolean}
use Rattle.col_model.specs.Value.{Value, whole}
use Rattle.col_model.specs.Column.{is_slot_of}
use Rattle.col_model.specs.ChunkCalls.{null_count}
use Rattle.col_buffer.specs.Validity.{AddsRange, AddsValid, SetsValid, slot_if, valid_at, valid_count}
use Rattle.col_buffer.proofs.SlotLaws.{Reaches-le, valid-slot}
use Rattle.col_boolean.specs.Bits.{bit_slots, truth}

-- equal parts make equal slots, and equal slots equal lists
slot_same : (b c x y : Bool) → b ≡ c → x ≡ y → slot_if truth b x ≡ slot_if truth c y
slot_same b c x y p q = ap (λ (z : Bool). slot_if truth z x) p ∙ ap (slot_if truth c) q

cons_same : (s t : Option Value) (ss ts : List (Option Value)) → s ≡ t → ss ≡ ts → s ∷ ss ≡ t ∷ ts
cons_same s t ss ts p q = ap (λ (z : Option Value). z ∷ ss) p ∙ ap (λ (zs : List (Option Value)). t ∷ zs) q

module _ (values validity : Option (List ℕ)) where
  pub length-bit_slots : (i n : ℕ) → length (bit_slots values validity i n) ≡ n
  length-bit_slots i zero = refl
  length-bit_slots i (suc n) = ap suc (length-bit_slots (i + 1) n)

  -- the slot at a place
  pub get_or-bit_slots : (i n k : ℕ) → k < n → slice_index_or (bit_slots values validity i n) k None ≡ slot_if truth (valid_at validity (i + k)) (valid_at values (i + k))
  get_or-bit_slots i zero k h = absurd (omega arith)
  get_or-bit_slots i (suc n) zero h = ap (λ (j : ℕ). slot_if truth (valid_at validity j) (valid_at values j)) (sym (add-zero i))
  get_or-bit_slots i (suc n) (suc k) h =
      let is : i + 1 + k ≡ i + suc k = omega arith in
      get_or-bit_slots (i + 1) n k (omega arith) ∙ ap (λ (j : ℕ). slot_if truth (valid_at validity j) (valid_at values j)) is

  -- the places of two runs, one behind the other
  pub append-bit_slots : (i n m : ℕ) → bit_slots values validity i (n + m) ≡ bit_slots values validity i n ++ bit_slots values validity (i + n) m
  append-bit_slots i zero m =
      let is : 0 + m ≡ m = omega arith in
      ap (bit_slots values validity i) is ∙ ap (λ (j : ℕ). bit_slots values validity j m) (sym (add-zero i))
  append-bit_slots i (suc n) m =
      let more : suc n + m ≡ suc (n + m) = omega arith in
      let is : i + 1 + n ≡ i + suc n = omega arith in
      ap (bit_slots values validity i) more
      ∙ ap (λ (ss : List (Option Value)). slot_if truth (valid_at validity i) (valid_at values i) ∷ ss)
      (append-bit_slots (i + 1) n m ∙ ap (λ (j : ℕ). bit_slots values validity (i + 1) n ++ bit_slots values validity j m) is)

  drop-bit_slots : (i n k : ℕ) → drop k (bit_slots values validity i n) ≡ bit_slots values validity (i + k) (n - k)
  drop-bit_slots i n zero =
      let all : n ≡ n - 0 = omega arith in
      ap (λ (j : ℕ). bit_slots values validity j n) (sym (add-zero i)) ∙ ap (bit_slots values validity (i + 0)) all
  drop-bit_slots i zero (suc k) =
      let none : 0 ≡ 0 - suc k = omega arith in
      ap (bit_slots values validity (i + suc k)) none
  drop-bit_slots i (suc n) (suc k) =
      let is : i + 1 + k ≡ i + suc k = omega arith in
      let less : n - k ≡ suc n - suc k = omega arith in
      drop-bit_slots (i + 1) n k ∙ ap (λ (j : ℕ). bit_slots values validity j (n - k)) is ∙ ap (bit_slots values validity (i + suc k)) less

  take-bit_slots : (i n k : ℕ) → k ≤ n → take k (bit_slots values validity i n) ≡ bit_slots values validity i k
  take-bit_slots i n zero h = refl
  take-bit_slots i zero (suc k) h = absurd (omega arith)
  take-bit_slots i (suc n) (suc k) h = ap (λ (ss : List (Option Value)). slot_if truth (valid_at validity i) (valid_at values i) ∷ ss) (take-bit_slots (i + 1) n k (omega arith))

  -- a part of a part
  pub part-bit_slots : (i n k m : ℕ) → k + m ≤ n → bit_slots values validity (i + k) m ≡ take m (drop k (bit_slots values validity i n))
  part-bit_slots i n k m h = sym (ap (take m) (drop-bit_slots i n k) ∙ take-bit_slots (i + k) (n - k) m (omega arith))

  -- how many slots there are
  pub size_is : (i n : ℕ) (slots : List (Option Value)) → bit_slots values validity i n ≡ slots → length slots ≡ n
  size_is i n slots e = sym (ap length e) ∙ length-bit_slots i n

  -- what `get` answers
  pub got : (i n k : ℕ) (slots : List (Option Value)) (b x : Bool) → bit_slots values validity i n ≡ slots → k < length slots
      → b ≡ valid_at validity (i + k) → x ≡ valid_at values (i + k) → slot_if truth b x ≡ slice_index_or slots k None
  got i n k slots b x e less valid is =
      slot_same b (valid_at validity (i + k)) x (valid_at values (i + k)) valid is
      ∙ sym (get_or-bit_slots i n k (omega (arith, size_is i n slots e)))
      ∙ ap (λ (ss : List (Option Value)). slice_index_or ss k None) e

  -- whether a slot is valid
  pub valid_in : (i n k : ℕ) (slots : List (Option Value)) → bit_slots values validity i n ≡ slots → k < length slots → valid_at validity (i + k) ≡ is_some (slice_index_or slots k None)
  valid_in i n k slots e less =
      sym (valid-slot truth (valid_at validity (i + k)) (valid_at values (i + k)))
      ∙ ap is_some (got i n k slots (valid_at validity (i + k)) (valid_at values (i + k)) e less refl refl)

  -- nulls are the places that aren't valid
  nulls-bit_slots : (i n : ℕ) → null_count (bit_slots values validity i n) + valid_count validity i n ≡ n
  nulls-bit_slots i zero = refl
  nulls-bit_slots i (suc n) = one (valid_at validity i) (valid_at values i) (nulls-bit_slots (i + 1) n)
    where
      one : (b x : Bool) → count_by is_none (bit_slots values validity (i + 1) n) + valid_count validity (i + 1) n ≡ n
          → count_by is_none (slot_if truth b x ∷ bit_slots values validity (i + 1) n) + ((if b then 1 else 0) + valid_count validity (i + 1) n) ≡ suc n
      one true x e = omega (arith, sum_by-cons (λ s. if is_none s then 1 else 0) (slot_if truth true x) (bit_slots values validity (i + 1) n), e)
      one false x e = omega (arith, sum_by-cons (λ s. if is_none s then 1 else 0) (slot_if truth false x) (bit_slots values validity (i + 1) n), e)

  pub nulls_in : (i n nulls : ℕ) (slots : List (Option Value)) → bit_slots values validity i n ≡ slots → nulls + valid_count validity i n ≡ n → nulls ≡ null_count slots
  nulls_in i n nulls slots e counted =
      let all = nulls-bit_slots i n in
      let is : nulls ≡ null_count (bit_slots values validity i n) = omega (arith, all, counted) in
      is ∙ ap null_count e

  -- each slot is a truth value or null
  pub all-bit_slots : (i n : ℕ) → list_all (is_slot_of Boolean) (bit_slots values validity i n) ≡ true
  all-bit_slots i zero = refl
  all-bit_slots i (suc n) =
      ap (λ (b : Bool). b && list_all (is_slot_of Boolean) (bit_slots values validity (i + 1) n)) (each (valid_at validity i) (valid_at values i)) ∙ all-bit_slots (i + 1) n
    where
      each : (b x : Bool) → is_slot_of Boolean (slot_if truth b x) ≡ true
      each true true = refl
      each true false = refl
      each false x = refl

-- the slots of equal bits
pub same-bit_slots : (values others validity bits : Option (List ℕ)) (i j n : ℕ)
    → ((k : ℕ) → k < n → valid_at values (i + k) ≡ valid_at others (j + k))
    → ((k : ℕ) → k < n → valid_at validity (i + k) ≡ valid_at bits (j + k))
    → bit_slots values validity i n ≡ bit_slots others bits j n
same-bit_slots values others validity bits i j zero p q = refl
same-bit_slots values others validity bits i j (suc n) p q =
    cons_same (slot_if truth (valid_at validity i) (valid_at values i)) (slot_if truth (valid_at bits j) (valid_at others j)) (bit_slots values validity (i + 1) n) (bit_slots others bits (j + 1) n)
    (slot_same (valid_at validity i) (valid_at bits j) (valid_at values i) (valid_at others j) (first validity bits q) (first values others p))
    (same-bit_slots values others validity bits (i + 1) (j + 1) n (later values others p) (later validity bits q))
  where
    first : (a b : Option (List ℕ)) → ((k : ℕ) → k < suc n → valid_at a (i + k) ≡ valid_at b (j + k)) → valid_at a i ≡ valid_at b j
    first a b h = ap (valid_at a) (sym (add-zero i)) ∙ h 0 (omega arith) ∙ ap (valid_at b) (add-zero j)

    later : (a b : Option (List ℕ)) → ((k : ℕ) → k < suc n → valid_at a (i + k) ≡ valid_at b (j + k)) → (k : ℕ) → k < n → valid_at a (i + 1 + k) ≡ valid_at b (j + 1 + k)
    later a b h k less =
        let left : i + 1 + k ≡ i + suc k = omega arith in
        let right : j + suc k ≡ j + 1 + k = omega arith in
        ap (valid_at a) left ∙ h (suc k) (omega arith) ∙ ap (valid_at b) right

-- equal slots
pub equal-bit_slots : (values validity : Option (List ℕ)) (b x : Bool) (i n : ℕ)
    → ((k : ℕ) → k < n → slot_if truth (valid_at validity (i + k)) (valid_at values (i + k)) ≡ slot_if truth b x)
    → bit_slots values validity i n ≡ replicate n (slot_if truth b x)
equal-bit_slots values validity b x i zero h = refl
equal-bit_slots values validity b x i (suc n) h =
    cons_same (slot_if truth (valid_at validity i) (valid_at values i)) (slot_if truth b x) (bit_slots values validity (i + 1) n) (replicate n (slot_if truth b x))
    (ap (λ (j : ℕ). slot_if truth (valid_at validity j) (valid_at values j)) (sym (add-zero i)) ∙ h 0 (omega arith))
    (equal-bit_slots values validity b x (i + 1) n (λ k less.
    let is : i + 1 + k ≡ i + suc k = omega arith in
    ap (λ (j : ℕ). slot_if truth (valid_at validity j) (valid_at values j)) is ∙ h (suc k) (omega arith)))

-- places that have equal slots
slots_same : (values others validity bits : Option (List ℕ)) (i n : ℕ)
    → ((j : ℕ) → i ≤ j → j < i + n → slot_if truth (valid_at bits j) (valid_at others j) ≡ slot_if truth (valid_at validity j) (valid_at values j))
    → bit_slots others bits i n ≡ bit_slots values validity i n
slots_same values others validity bits i zero h = refl
slots_same values others validity bits i (suc n) h =
    cons_same (slot_if truth (valid_at bits i) (valid_at others i)) (slot_if truth (valid_at validity i) (valid_at values i)) (bit_slots others bits (i + 1) n) (bit_slots values validity (i + 1) n)
    (h i (omega arith) (omega arith))
    (slots_same values others validity bits (i + 1) n (λ j low high. h j (omega arith) (omega arith)))

-- one place written
set-bit_slots : (values others validity bits : Option (List ℕ)) (s : Option Value) (i n k : ℕ) → k < n
    → slot_if truth (valid_at bits (i + k)) (valid_at others (i + k)) ≡ s
    → ((j : ℕ) → j ≢ i + k → j < i + n → slot_if truth (valid_at bits j) (valid_at others j) ≡ slot_if truth (valid_at validity j) (valid_at values j))
    → bit_slots others bits i n ≡ slice_set (bit_slots values validity i n) k s
set-bit_slots values others validity bits s i zero k less here apart = absurd (omega arith)
set-bit_slots values others validity bits s i (suc n) zero less here apart =
    cons_same (slot_if truth (valid_at bits i) (valid_at others i)) s (bit_slots others bits (i + 1) n) (bit_slots values validity (i + 1) n)
    (ap (λ (j : ℕ). slot_if truth (valid_at bits j) (valid_at others j)) (sym (add-zero i)) ∙ here)
    (slots_same values others validity bits (i + 1) n (λ j low high. apart j (λ e. absurd (omega arith)) (omega arith)))
set-bit_slots values others validity bits s i (suc n) (suc k) less here apart =
    let is : i + 1 + k ≡ i + suc k = omega arith in
    cons_same (slot_if truth (valid_at bits i) (valid_at others i)) (slot_if truth (valid_at validity i) (valid_at values i)) (bit_slots others bits (i + 1) n) (slice_set (bit_slots values validity (i + 1) n) k s)
    (apart i (λ e. absurd (omega arith)) (omega arith))
    (set-bit_slots values others validity bits s (i + 1) n k (omega arith)
    (ap (λ (j : ℕ). slot_if truth (valid_at bits j) (valid_at others j)) is ∙ here)
    (λ j ne high. apart j (λ e. ne (e ∙ sym is)) (omega arith)))

-- a place made null
pub cleared : (values validity bits : Option (List ℕ)) (i n k : ℕ) (slots : List (Option Value)) → bit_slots values validity i n ≡ slots → k < length slots
    → SetsValid validity bits (i + n) (i + k) false → bit_slots values bits i n ≡ slice_set slots k None
cleared values validity bits i n k slots e less s =
    set-bit_slots values values validity bits None i n k (omega (arith, less, size_is values validity i n slots e))
    (ap (λ (b : Bool). slot_if truth b (valid_at values (i + k))) s.here)
    (λ j ne high. ap (λ (b : Bool). slot_if truth b (valid_at values j)) (s.others j ne high))
    ∙ ap (λ (ss : List (Option Value)). slice_set ss k None) e

-- a value written
pub written_in : (values others validity bits : Option (List ℕ)) (i n k : ℕ) (x : Bool) (slots : List (Option Value)) → bit_slots values validity i n ≡ slots → k < length slots
    → SetsValid values others (i + n) (i + k) x → SetsValid validity bits (i + n) (i + k) true → bit_slots others bits i n ≡ slice_set slots k (Some (whole (truth x)))
written_in values others validity bits i n k x slots e less v s =
    set-bit_slots values others validity bits (Some (whole (truth x))) i n k (omega (arith, less, size_is values validity i n slots e))
    (slot_same (valid_at bits (i + k)) true (valid_at others (i + k)) x s.here v.here)
    (λ j ne high. slot_same (valid_at bits j) (valid_at validity j) (valid_at others j) (valid_at values j) (s.others j ne high) (v.others j ne high))
    ∙ ap (λ (ss : List (Option Value)). slice_set ss k (Some (whole (truth x)))) e

-- what is written below a null isn't seen
pub unseen : (values others validity bits : Option (List ℕ)) (count place : ℕ) (x : Bool) → valid_at validity place ≡ false → SetsValid values others count place x → bits ≡ validity
    → (i n : ℕ) → i + n ≤ count → bit_slots others bits i n ≡ bit_slots values validity i n
unseen values others validity bits count place x null s same i n room =
    ap (λ (ws : Option (List ℕ)). bit_slots others ws i n) same
    ∙ slots_same values others validity validity i n (λ j low high. elim (cases_eq j place) [
      | inl here ↦
          let below : valid_at validity j ≡ false = ap (valid_at validity) here ∙ null in
          ap (λ (b : Bool). slot_if truth b (valid_at others j)) below ∙ sym (ap (λ (b : Bool). slot_if truth b (valid_at values j)) below)
      | inr apart ↦ ap (slot_if truth (valid_at validity j)) (s.others j apart (omega arith))
    ])

-- so many nulls, and so many equal values
pub null-bit_slots : (validity : Option (List ℕ)) (n : ℕ) → ((k : ℕ) → k < n → valid_at validity k ≡ false) → bit_slots None validity 0 n ≡ replicate n None
null-bit_slots validity n h = equal-bit_slots None validity false true 0 n (λ k less.
    let at : 0 + k ≡ k = omega arith in
    ap (λ (b : Bool). slot_if truth b true) (ap (valid_at validity) at ∙ h k less))

pub value-bit_slots : (values : Option (List ℕ)) (x : Bool) (n : ℕ) → ((k : ℕ) → k < n → valid_at values k ≡ x) → bit_slots values None 0 n ≡ replicate n (Some (whole (truth x)))
value-bit_slots values x n h = equal-bit_slots values None true x 0 n (λ k less.
    let at : 0 + k ≡ k = omega arith in
    ap (slot_if truth true) (ap (valid_at values) at ∙ h k less))

-- a value and its validity behind others
pub pushed : (values others validity bits : Option (List ℕ)) (n : ℕ) (x b : Bool) (slots : List (Option Value)) → bit_slots values validity 0 n ≡ slots
    → AddsValid values others n x → AddsValid validity bits n b → bit_slots others bits 0 (n + 1) ≡ slots ++ slot_if truth b x ∷ []
pushed values others validity bits n x b slots e a v =
    let at : 0 + n ≡ n = omega arith in
    append-bit_slots others bits 0 n 1
    ∙ ap (λ (ss : List (Option Value)). ss ++ slot_if truth (valid_at bits (0 + n)) (valid_at others (0 + n)) ∷ [])
    (same-bit_slots others values bits validity 0 0 n (λ k less. a.others (0 + k) (omega arith)) (λ k less. v.others (0 + k) (omega arith)) ∙ e)
    ∙ ap (λ (s : Option Value). slots ++ s ∷ [])
    (slot_same (valid_at bits (0 + n)) b (valid_at others (0 + n)) x (ap (valid_at bits) at ∙ v.here) (ap (valid_at others) at ∙ a.here))

-- a run of others behind those that were written
pub ranged : (values others validity bits from marks : Option (List ℕ)) (n start len : ℕ) (slots : List (Option Value)) → bit_slots values validity 0 n ≡ slots
    → AddsRange values others n from start len → AddsRange validity bits n marks start len → bit_slots others bits 0 (n + len) ≡ slots ++ bit_slots from marks start len
ranged values others validity bits from marks n start len slots e a v =
    append-bit_slots others bits 0 n len
    ∙ ap (λ (ss : List (Option Value)). ss ++ bit_slots others bits (0 + n) len)
    (same-bit_slots others values bits validity 0 0 n (λ k less. a.others (0 + k) (omega arith)) (λ k less. v.others (0 + k) (omega arith)) ∙ e)
    ∙ ap (λ (ss : List (Option Value)). slots ++ ss)
    (same-bit_slots others from bits marks (0 + n) start len
    (λ k less.
    let at : 0 + n + k ≡ n + k = omega arith in
    ap (valid_at others) at ∙ a.here k less)
    (λ k less.
    let at : 0 + n + k ≡ n + k = omega arith in
    ap (valid_at bits) at ∙ v.here k less))

-- the slots of a part, kept in equal bits
pub part_is : (values validity others bits : Option (List ℕ)) (i n k m : ℕ) (slots : List (Option Value)) → others ≡ values → bits ≡ validity
    → bit_slots values validity i n ≡ slots → k + m ≤ length slots → bit_slots others bits (i + k) m ≡ take m (drop k slots)
part_is values validity others bits i n k m slots p q e room =
    ap (λ (vs : Option (List ℕ)). bit_slots vs bits (i + k) m) p
    ∙ ap (λ (ws : Option (List ℕ)). bit_slots values ws (i + k) m) q
    ∙ part-bit_slots values validity i n k m (omega (arith, room, size_is values validity i n slots e))
    ∙ ap (λ (ss : List (Option Value)). take m (drop k ss)) e

pub ruleset bit_laws = (length-bit_slots, part-bit_slots, same-bit_slots, Reaches-le)
