-- Laws of slots whose words of validity are made of others.
use Rattle.std.specs.Prelude.{◌≡◌, ◌≢◌, ◌+◌, ◌*◌, ◌/◌, ◌%◌, ◌≤◌, ◌<◌, ◌==◌, ◌&&◌, ℕ, suc, ℤ, Bool, true, false, List, [], ◌∷◌, ◌++◌, Option, Some, length}
use Rattle.std.specs.Int.{bit_at}
use Rattle.std.proofs.Common.{refl, ap, sym, ◌∙◌, arith, add-zero, get_or}
use Rattle.std.proofs.lemmas.List.{get_or_append_left, get_or_push}
use Rattle.col_model.specs.Value.{Value, on_slot, integer_slot}
use Rattle.col_buffer.specs.Joining.{HasBoth}
use Rattle.col_buffer.specs.Validity.{masked, slot_if, valid_at}
use Rattle.col_buffer.proofs.SlotLaws.{masked-append, masked-push, masked-same}
use Rattle.col_rule.specs.Rules.{mapped, word_slots_by}

-- words under a rule, by their values and by their bits
mapped_is : {T U : Type 0} (reading : T → ℤ) (read : U → ℤ) (f : ℤ → Option ℤ) (w s bits : Option (List ℕ)) (i j p : ℕ) (from : List T) (answer : List U)
    → masked read w j answer ≡ word_slots_by f reading from
    → ((k : ℕ) → k < length from → valid_at bits (i + k) ≡ valid_at w (j + k) && valid_at s (p + k))
    → masked read bits i answer ≡ mapped f (masked reading s p from)
mapped_is reading read f w s bits i j p [] [] values both = refl
mapped_is reading read f w s bits i j p [] (z ∷ zs) values both = absurd (cc)
mapped_is reading read f w s bits i j p (x ∷ xs) [] values both = absurd (cc)
mapped_is reading read f w s bits i j p (x ∷ xs) (z ∷ zs) values both =
    let first : slot_if read (valid_at w j) z ≡ integer_slot (f (reading x)) = cc in
    let others : masked read w (j + 1) zs ≡ word_slots_by f reading xs = cc in
    let here : valid_at bits i ≡ valid_at w j && valid_at s p =
    ap (valid_at bits) (sym (add-zero i)) ∙ both 0 (omega arith) ∙ ap (λ (n : ℕ). valid_at w n && valid_at s (p + 0)) (add-zero j) ∙ ap (λ (n : ℕ). valid_at w j && valid_at s n) (add-zero p)
    in
    ap (λ (b : Bool). slot_if read b z ∷ masked read bits (i + 1) zs) here
    ∙ ap (λ (t : Option Value). t ∷ masked read bits (i + 1) zs) (slot (valid_at w j) (valid_at s p) x z first)
    ∙ ap (λ (ss : List (Option Value)). on_slot f (slot_if reading (valid_at s p) x) ∷ ss)
    (mapped_is reading read f w s bits (i + 1) (j + 1) (p + 1) xs zs others
    (λ k less. moved (λ (n : ℕ). valid_at bits n) i k ∙ both (suc k) (omega arith)
    ∙ ap (λ (b : Bool). b && valid_at s (p + suc k)) (sym (moved (valid_at w) j k)) ∙ ap (λ (b : Bool). valid_at w (j + 1 + k) && b) (sym (moved (valid_at s) p k))))
  where
    moved : (g : ℕ → Bool) (n k : ℕ) → g (n + 1 + k) ≡ g (n + suc k)
    moved g n k = let is : n + 1 + k ≡ n + suc k = omega arith in ap g is

    slot : (b c : Bool) (x z : _) → slot_if read b z ≡ integer_slot (f (reading x))
        → slot_if read (b && c) z ≡ on_slot f (slot_if reading c x)
    slot true true x z e = e
    slot true false x z e = refl
    slot false true x z e = e
    slot false false x z e = refl

-- the same of whole chunks
pub mapped_are : {T U : Type 0} (reading : T → ℤ) (read : U → ℤ) (f : ℤ → Option ℤ) (w s bits : Option (List ℕ)) (p len : ℕ) (from : List T) (answer : List U) (slots : List (Option Value))
    → masked reading s p from ≡ slots → length from ≡ len → masked read w 0 answer ≡ word_slots_by f reading from → HasBoth w 0 s p len bits
    → masked read bits 0 answer ≡ mapped f slots
mapped_are reading read f w s bits p len from answer slots e is values both =
    mapped_is reading read f w s bits 0 0 p from answer values (λ k less. let at : 0 + k ≡ k = omega arith in ap (valid_at bits) at ∙ both.same k (omega arith))
    ∙ ap (mapped f) e

-- values behind whole words of others
pub word-append : {T : Type 0} (reading : T → ℤ) (words : List ℕ) (word : ℕ) (done piece : List T) → length done ≡ 64 * length words → length piece ≤ 64
    → masked reading (Some (words ++ word ∷ [])) 0 (done ++ piece) ≡ masked reading (Some words) 0 done ++ masked reading (Some (word ∷ [])) 0 piece
word-append {T} reading words word done piece whole_words short =
    masked-append reading (Some (words ++ word ∷ [])) 0 done piece
    ∙ ap (λ (zs : List (Option Value)). zs ++ masked reading (Some (words ++ word ∷ [])) (0 + length done) piece)
    (masked-same reading (Some words) (Some (words ++ word ∷ [])) 0 done (λ j low high. before j (omega arith)))
    ∙ ap (λ (zs : List (Option Value)). masked reading (Some words) 0 done ++ zs) (ap (λ (n : ℕ). masked reading (Some (words ++ word ∷ [])) n piece) (sym (add-zero (0 + length done))) ∙ behind 0 piece (omega arith))
  where
    before : (j : ℕ) → j < length done → valid_at (Some (words ++ word ∷ [])) j ≡ valid_at (Some words) j
    before j less =
        let inside : j / 64 < length words = omega arith in
        ap (λ (z : ℕ). bit_at z (j % 64) == 1) (get_or_append_left words (word ∷ []) 0 (j / 64) inside)

    at : (k : ℕ) → k < 64 → valid_at (Some (words ++ word ∷ [])) (0 + length done + k) ≡ valid_at (Some (word ∷ [])) k
    at k less =
        let q : (0 + length done + k) / 64 ≡ length words = omega arith in
        let r : (0 + length done + k) % 64 ≡ k % 64 = omega arith in
        let z : k / 64 ≡ 0 = omega arith in
        ap (λ (n : ℕ). bit_at (get_or (words ++ word ∷ []) n 0) ((0 + length done + k) % 64) == 1) q
        ∙ ap (λ (n : ℕ). bit_at n ((0 + length done + k) % 64) == 1) (get_or_push words word 0 (length words) refl)
        ∙ ap (λ (n : ℕ). bit_at word n == 1) r
        ∙ ap (λ (n : ℕ). bit_at (get_or (word ∷ []) n 0) (k % 64) == 1) (sym z)

    behind : (k : ℕ) (xs : List T) → k + length xs ≤ 64 → masked reading (Some (words ++ word ∷ [])) (0 + length done + k) xs ≡ masked reading (Some (word ∷ [])) k xs
    behind k [] short = refl
    behind k (x ∷ xs) short =
        let is : 0 + length done + k + 1 ≡ 0 + length done + (k + 1) = omega arith in
        ap (λ (b : Bool). slot_if reading b x ∷ masked reading (Some (words ++ word ∷ [])) (0 + length done + k + 1) xs) (at k (omega arith))
        ∙ ap (λ (n : ℕ). slot_if reading (valid_at (Some (word ∷ [])) k) x ∷ masked reading (Some (words ++ word ∷ [])) n xs) is
        ∙ ap (λ (ss : List (Option Value)). slot_if reading (valid_at (Some (word ∷ [])) k) x ∷ ss) (behind (k + 1) xs (omega arith))

-- one more slot in one word
pub word-push : {U : Type 0} (read : U → ℤ) (word written : ℕ) (done : List U) (v : U) (valid : Bool) → length done < 64
    → (bit_at written (length done) == 1) ≡ valid → ((i : ℕ) → i < 64 → i ≢ length done → bit_at written i ≡ bit_at word i)
    → masked read (Some (written ∷ [])) 0 (done ++ v ∷ []) ≡ masked read (Some (word ∷ [])) 0 done ++ slot_if read valid v ∷ []
word-push read word written done v valid short here others =
    masked-push read (Some (word ∷ [])) (Some (written ∷ [])) done v valid (record {
      reach = omega arith;
      here = in_word written (length done) short ∙ here;
      others = λ j less.
          let inside : j < 64 = omega arith in
          let apart : j ≢ length done = λ e. absurd (omega arith) in
          in_word written j inside ∙ ap (λ (n : ℕ). n == 1) (others j inside apart) ∙ sym (in_word word j inside);
    })
  where
    in_word : (word j : ℕ) → j < 64 → valid_at (Some (word ∷ [])) j ≡ (bit_at word j == 1)
    in_word word j less =
        let q : j / 64 ≡ 0 = omega arith in
        let r : j % 64 ≡ j = omega arith in
        ap (λ (n : ℕ). bit_at (get_or (word ∷ []) n 0) (j % 64) == 1) q ∙ ap (λ (n : ℕ). bit_at word n == 1) r
