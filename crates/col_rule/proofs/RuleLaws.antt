-- Laws of rules over lists of words.
use Rattle.std.specs.Prelude.{◌≡◌, ◌≢◌, ◌+◌, ◌*◌, ◌-◌, ◌≤◌, ◌<◌, ◌==◌, ◌&&◌, not, ℕ, zero, suc, ℤ, Bool, true, false, List, [], ◌∷◌, ◌++◌, Option, Some, None, length, take, drop, min, is_some, is_none, if◌then◌else◌}
use Rattle.std.specs.Int.{bit_at}
use Rattle.std.proofs.Common.{refl, ap, sym, ◌∙◌, arith, add-zero, get_or, inl, inr}
use Rattle.std.proofs.lemmas.Bool.{cases_lt}
use Rattle.std.proofs.lemmas.List.{drop_more, take_all, append-nil, drop-append-le, length-drop, append_assoc, drop_all, take-append-drop}
use Rattle.col_model.specs.Value.{Value, on_slots, on_slot, integer_slot}
use Rattle.col_model.specs.ColumnCalls.{first_lost}
use Rattle.col_buffer.specs.Joining.{HasBoth}
use Rattle.col_buffer.specs.Validity.{masked, slot_if, valid_at}
use Rattle.std.proofs.lemmas.Grind.{take-set_at}
use Rattle.std.specs.Prelude.{slice_set}
use Rattle.col_buffer.proofs.SlotLaws.{length-masked, masked-append, pushed}
use Rattle.col_rule.proofs.BitLaws.{word-push, word-append}
use Rattle.col_rule.specs.Rules.{first_gap, met_slots, paired, word_slots_by}

-- ---- sources

pub length-met : {T U : Type 0} (f : ℤ → ℤ → Option ℤ) (reading : T → ℤ) (read : U → ℤ) (xs : List T) (ys : List U) → length (met_slots f reading read xs ys) ≡ min (length xs) (length ys)
length-met f reading read [] ys = omega arith
length-met f reading read (x ∷ xs) [] = omega arith
length-met f reading read (x ∷ xs) (y ∷ ys) = let rest = length-met f reading read xs ys in omega (arith, rest)

pub get-met : {T U : Type 0} (f : ℤ → ℤ → Option ℤ) (reading : T → ℤ) (read : U → ℤ) (xs : List T) (ys : List U) (i : ℕ) (x : T) (y : U)
    → i < length xs → i < length ys → x ≡ get_or xs i x → y ≡ get_or ys i y → get_or (met_slots f reading read xs ys) i None ≡ integer_slot (f (reading x) (read y))
get-met f reading read [] ys i x y less also p q = absurd (omega arith)
get-met f reading read (a ∷ xs) [] i x y less also p q = absurd (omega arith)
get-met f reading read (a ∷ xs) (b ∷ ys) zero x y less also p q = ap (λ z. integer_slot (f (reading z) (read b))) (sym p) ∙ ap (λ z. integer_slot (f (reading x) (read z))) (sym q)
get-met f reading read (a ∷ xs) (b ∷ ys) (suc i) x y less also p q = get-met f reading read xs ys i x y (omega arith) (omega arith) p q

-- ---- the loop

-- a loop's step over the values of one word
pub fill-step : {U : Type 0} (read : U → ℤ) (old values more_values : List U) (slots : List (Option Value)) (start i word written : ℕ) (v : U) (valid : Bool)
    → i < length slots → start ≤ i → i < start + 64 → slot_if read valid v ≡ get_or slots i None → more_values ≡ values ++ v ∷ []
    → length values ≡ length old + (i - start)
    → (bit_at written (i - start) == 1) ≡ valid → ((j : ℕ) → j < 64 → j ≢ (i - start) → bit_at written j ≡ bit_at word j)
    → masked read (Some (word ∷ [])) 0 (drop (length old) values) ++ drop i slots ≡ drop start slots
    → masked read (Some (written ∷ [])) 0 (drop (length old) more_values) ++ drop (i + 1) slots ≡ drop start slots
fill-step {U} read old values more_values slots start i word written v valid inside low high slot e len here others whole_is =
    let piece : List U = drop (length old) values in
    let long : length piece ≡ i - start = omega (arith, length-drop (length old) values) in
    let more : drop (length old) more_values ≡ piece ++ v ∷ [] = ap (drop (length old)) e ∙ drop-append-le (length old) values (v ∷ []) (omega arith) in
    let there : (bit_at written (length piece) == 1) ≡ valid = ap (λ (n : ℕ). bit_at written n == 1) long ∙ here in
    let elsewhere : (j : ℕ) → j < 64 → j ≢ length piece → bit_at written j ≡ bit_at word j = λ j less apart. others j less (λ same. apart (same ∙ sym long)) in
    pushed _ (masked read (Some (word ∷ [])) 0 piece) (get_or slots i None) (drop (i + 1) slots) (drop i slots) (drop start slots)
    (ap (masked read (Some (written ∷ [])) 0) more ∙ word-push read word written piece v valid (omega arith) there elsewhere
    ∙ ap (λ (t : Option Value). masked read (Some (word ∷ [])) 0 piece ++ t ∷ []) slot)
    (drop_more slots i None inside)
    whole_is

-- a loop's step over the words
pub fill_words-step : {U : Type 0} (read : U → ℤ) (old values : List U) (words : List ℕ) (slots : List (Option Value)) (at word start end : ℕ)
    → start ≡ at * 64 → end ≡ min (start + 64) (length slots) → start < length slots → length old ≡ start → length words ≡ at
    → take (length old) values ≡ old → length values ≡ end
    → masked read (Some (word ∷ [])) 0 (drop (length old) values) ++ drop end slots ≡ drop start slots
    → masked read (Some words) 0 old ++ drop (64 * at) slots ≡ slots
    → masked read (Some (words ++ word ∷ [])) 0 values ++ drop (64 * (at + 1)) slots ≡ slots
fill_words-step {U} read old values words slots at word start end s e inside len count kept size piece_is whole_is =
    let piece : List U = drop (length old) values in
    let parts : old ++ piece ≡ values = ap (λ (xs : List U). xs ++ piece) (sym kept) ∙ take-append-drop (length old) values in
    let few : length piece ≡ end - start = omega (arith, length-drop (length old) values) in
    let is : start ≡ 64 * at = omega arith in
    ap (λ (xs : List U). masked read (Some (words ++ word ∷ [])) 0 xs ++ drop (64 * (at + 1)) slots) (sym parts)
    ∙ ap (λ (ss : List (Option Value)). ss ++ drop (64 * (at + 1)) slots) (word-append read words word old piece (omega arith) (omega arith))
    ∙ append_assoc (masked read (Some words) 0 old) (masked read (Some (word ∷ [])) 0 piece) (drop (64 * (at + 1)) slots)
    ∙ ap (λ (ss : List (Option Value)). masked read (Some words) 0 old ++ ss) (ap (λ (ss : List (Option Value)). masked read (Some (word ∷ [])) 0 piece ++ ss) (sym ends) ∙ piece_is ∙ ap (λ (n : ℕ). drop n slots) is)
    ∙ whole_is
  where
    ends : drop end slots ≡ drop (64 * (at + 1)) slots
    ends = elim (cases_lt (start + 64) (length slots)) [
      | inl less ↦ let same : end ≡ 64 * (at + 1) = omega arith in ap (λ (n : ℕ). drop n slots) same
      | inr more ↦ drop_all end slots (omega arith) ∙ sym (drop_all (64 * (at + 1)) slots (omega arith))
    ]

-- a step of the loop that keeps all
pub plain-step : {U : Type 0} (read : U → ℤ) (values : List U) (slots : List (Option Value)) (i : ℕ) (v : U) (valid : Bool)
    → i < length values → i < length slots → slot_if read valid v ≡ get_or slots i None → valid ≡ true
    → masked read None 0 (take i values) ++ drop i slots ≡ slots
    → masked read None 0 (take (i + 1) (slice_set values i v)) ++ drop (i + 1) slots ≡ slots
plain-step {U} read values slots i v valid inside less slot is whole_is =
    pushed _ (masked read None 0 (take i values)) (get_or slots i None) (drop (i + 1) slots) (drop i slots) slots
    (ap (masked read None 0) (take-set_at values i (i + 1) v refl inside) ∙ masked-append read None 0 (take i values) (v ∷ [])
    ∙ ap (λ (t : Option Value). masked read None 0 (take i values) ++ t ∷ []) (sym (ap (λ (b : Bool). slot_if read b v) is) ∙ slot))
    (drop_more slots i None less)
    whole_is

-- what three tests say
pub three : (a b c : Bool) → (a && b) && c ≡ true → (a ≡ true) × (b ≡ true) × (c ≡ true)
three true true true e = (refl, refl, refl)
three true true false e = absurd (cc)
three true false c e = absurd (cc)
three false b c e = absurd (cc)

-- the end of that loop
pub plain-end : {U : Type 0} (read : U → ℤ) (values : List U) (slots : List (Option Value)) (i : ℕ)
    → i ≡ length values → length values ≡ length slots → masked read None 0 (take i values) ++ drop i slots ≡ slots → masked read None 0 values ≡ slots
plain-end {U} read values slots i e same whole_is =
    sym (ap (masked read None 0) (take_all i values (omega arith)))
    ∙ sym (append-nil (masked read None 0 (take i values)))
    ∙ ap (λ (ss : List (Option Value)). masked read None 0 (take i values) ++ ss) (sym (drop_all i slots (omega arith)))
    ∙ whole_is

-- ---- chunks

-- two chunks by a rule, by its values and by the bits
pub meets_is : {T U V : Type 0} (reading : T → ℤ) (read : U → ℤ) (show : V → ℤ) (f : ℤ → ℤ → Option ℤ) (w l r bits : Option (List ℕ)) (i j p q : ℕ) (left : List T) (right : List U) (answer : List V)
    → length left ≡ length right → masked show w j answer ≡ met_slots f reading read left right
    → ((k : ℕ) → k < length left → valid_at bits (i + k) ≡ valid_at w (j + k) && (valid_at l (p + k) && valid_at r (q + k)))
    → masked show bits i answer ≡ paired f (masked reading l p left) (masked read r q right)
meets_is reading read show f w l r bits i j p q [] right [] same values both = refl
meets_is reading read show f w l r bits i j p q [] right (z ∷ zs) same values both = absurd (cc)
meets_is reading read show f w l r bits i j p q (x ∷ xs) [] answer same values both = absurd (omega arith)
meets_is reading read show f w l r bits i j p q (x ∷ xs) (y ∷ ys) [] same values both = absurd (cc)
meets_is reading read show f w l r bits i j p q (x ∷ xs) (y ∷ ys) (z ∷ zs) same values both =
    let first : slot_if show (valid_at w j) z ≡ integer_slot (f (reading x) (read y)) = cc in
    let others : masked show w (j + 1) zs ≡ met_slots f reading read xs ys = cc in
    let here : valid_at bits i ≡ valid_at w j && (valid_at l p && valid_at r q) =
    ap (valid_at bits) (sym (add-zero i)) ∙ both 0 (omega arith) ∙ ap (λ (n : ℕ). valid_at w n && (valid_at l (p + 0) && valid_at r (q + 0))) (add-zero j) ∙ ap (λ (n : ℕ). valid_at w j && (valid_at l n && valid_at r (q + 0))) (add-zero p) ∙ ap (λ (n : ℕ). valid_at w j && (valid_at l p && valid_at r n)) (add-zero q)
    in
    ap (λ (b : Bool). slot_if show b z ∷ masked show bits (i + 1) zs) here
    ∙ ap (λ (s : Option Value). s ∷ masked show bits (i + 1) zs) (slot (valid_at w j) (valid_at l p) (valid_at r q) x y z first)
    ∙ ap (λ (ss : List (Option Value)). on_slots f (slot_if reading (valid_at l p) x) (slot_if read (valid_at r q) y) ∷ ss)
    (meets_is reading read show f w l r bits (i + 1) (j + 1) (p + 1) (q + 1) xs ys zs (omega arith) others
    (λ k less. moved (valid_at bits) i k ∙ both (suc k) (omega arith)
    ∙ ap (λ (b : Bool). b && (valid_at l (p + suc k) && valid_at r (q + suc k))) (sym (moved (valid_at w) j k))
    ∙ ap (λ (b : Bool). valid_at w (j + 1 + k) && (b && valid_at r (q + suc k))) (sym (moved (valid_at l) p k))
    ∙ ap (λ (b : Bool). valid_at w (j + 1 + k) && (valid_at l (p + 1 + k) && b)) (sym (moved (valid_at r) q k))))
  where
    moved : (g : ℕ → Bool) (n k : ℕ) → g (n + 1 + k) ≡ g (n + suc k)
    moved g n k = let is : n + 1 + k ≡ n + suc k = omega arith in ap g is

    slot : (a b c : Bool) (x y z : _) → slot_if show a z ≡ integer_slot (f (reading x) (read y))
        → slot_if show (a && (b && c)) z ≡ on_slots f (slot_if reading b x) (slot_if read c y)
    slot true true true x y z e = e
    slot true true false x y z e = refl
    slot true false c x y z e = refl
    slot false true true x y z e = e
    slot false true false x y z e = refl
    slot false false c x y z e = refl

-- the same of whole chunks
pub meets_are : {T U V : Type 0} (reading : T → ℤ) (read : U → ℤ) (show : V → ℤ) (f : ℤ → ℤ → Option ℤ) (w l r lr bits : Option (List ℕ)) (p q len : ℕ) (left : List T) (right : List U) (answer : List V) (slots others : List (Option Value))
    → masked reading l p left ≡ slots → masked read r q right ≡ others → length left ≡ len → length right ≡ len
    → masked show w 0 answer ≡ met_slots f reading read left right → HasBoth l p r q len lr → HasBoth w 0 lr 0 len bits
    → masked show bits 0 answer ≡ paired f slots others
meets_are reading read show f w l r lr bits p q len left right answer slots others e g long same values first second =
    meets_is reading read show f w l r bits 0 0 p q left right answer (long ∙ sym same) values
    (λ k less. let at : 0 + k ≡ k = omega arith in
    ap (valid_at bits) at ∙ second.same k (omega arith) ∙ ap (λ (b : Bool). valid_at w (0 + k) && b) (ap (valid_at lr) at ∙ first.same k (omega arith)))
    ∙ ap (λ (s : List (Option Value)). paired f s (masked read r q right)) e
    ∙ ap (paired f slots) g

-- the first lost row, by bits
pub gap_is : {T U : Type 0} (reading : T → ℤ) (read : U → ℤ) (f : ℤ → Option ℤ) (s w : Option (List ℕ)) (p i j : ℕ) (from : List T) (answer : List U)
    → masked read w i answer ≡ word_slots_by f reading from → i ≡ j
    → first_gap s p w i (length from) ≡ first_lost (on_slot f) j (masked reading s p from)
gap_is reading read f s w p i j [] answer values e = refl
gap_is reading read f s w p i j (x ∷ xs) [] values e = absurd (cc)
gap_is reading read f s w p i j (x ∷ xs) (z ∷ zs) values e =
    let first : slot_if read (valid_at w i) z ≡ integer_slot (f (reading x)) = cc in
    let others : masked read w (i + 1) zs ≡ word_slots_by f reading xs = cc in
    let next : i + 1 ≡ j + 1 = omega arith in
    ap (λ (rest : Option ℕ). if valid_at s p && not (valid_at w i) then Some i else rest) (gap_is reading read f s w (p + 1) (i + 1) (j + 1) xs zs others next)
    ∙ ap (λ (n : ℕ). if valid_at s p && not (valid_at w i) then Some n else first_lost (on_slot f) (j + 1) (masked reading s (p + 1) xs)) e
    ∙ ap (λ (b : Bool). if b then Some j else first_lost (on_slot f) (j + 1) (masked reading s (p + 1) xs)) (lost (valid_at s p) (valid_at w i) x z first)
  where
    lost : (b c : Bool) (x z : _) → slot_if read c z ≡ integer_slot (f (reading x)) → b && not c ≡ is_some (slot_if reading b x) && is_none (on_slot f (slot_if reading b x))
    lost true true x z e = ap is_none e
    lost true false x z e = ap is_none e
    lost false c x z e = refl

-- the same of whole chunks
pub gap_of : {T U : Type 0} (reading : T → ℤ) (read : U → ℤ) (f : ℤ → Option ℤ) (s w : Option (List ℕ)) (p len : ℕ) (from : List T) (answer : List U) (slots : List (Option Value))
    → masked reading s p from ≡ slots → length from ≡ len → masked read w 0 answer ≡ word_slots_by f reading from
    → first_gap s p w 0 len ≡ first_lost (on_slot f) 0 slots
gap_of reading read f s w p len from answer slots e long values =
    ap (first_gap s p w 0) (sym long) ∙ gap_is reading read f s w p 0 0 from answer values refl ∙ ap (first_lost (on_slot f) 0) e

-- a place that has no gap
pub gap-step : (s w : Option (List ℕ)) (p i n : ℕ) (b : Bool) → i < n → b ≡ valid_at s (p + i) && not (valid_at w i) → b ≡ false
    → first_gap s (p + i) w i (n - i) ≡ first_gap s (p + (i + 1)) w (i + 1) (n - (i + 1))
gap-step s w p i n b less is none =
    let more : n - i ≡ suc (n - (i + 1)) = omega arith in
    let next : p + i + 1 ≡ p + (i + 1) = omega arith in
    ap (first_gap s (p + i) w i) more
    ∙ ap (λ (c : Bool). if c then Some i else first_gap s (p + i + 1) w (i + 1) (n - (i + 1))) (sym is ∙ none)
    ∙ ap (λ (q : ℕ). first_gap s q w (i + 1) (n - (i + 1))) next

-- a place that has one
pub gap-here : (s w : Option (List ℕ)) (p i n : ℕ) (b : Bool) → i < n → b ≡ valid_at s (p + i) && not (valid_at w i) → b ≡ true
    → first_gap s (p + i) w i (n - i) ≡ Some i
gap-here s w p i n b less is one =
    let more : n - i ≡ suc (n - (i + 1)) = omega arith in
    ap (first_gap s (p + i) w i) more
    ∙ ap (λ (c : Bool). if c then Some i else first_gap s (p + i + 1) w (i + 1) (n - (i + 1))) (sym is ∙ one)

-- without words no row is lost
pub no_gap : (s : Option (List ℕ)) (p i n : ℕ) → first_gap s p None i n ≡ None
no_gap s p i zero = refl
no_gap s p i (suc n) = both_ways (valid_at s p) ∙ no_gap s (p + 1) (i + 1) n
  where
    both_ways : (b : Bool) → (if b && false then Some i else first_gap s (p + 1) None (i + 1) n) ≡ first_gap s (p + 1) None (i + 1) n
    both_ways true = refl
    both_ways false = refl

pub ruleset rule_laws = (length-met, get-met, length-masked)

pub ruleset gap_laws = (gap-step, gap-here)
