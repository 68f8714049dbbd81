-- A few digits behind a sign are the integer of the grammar.
use Rattle.std.proofs.Common.{◌≡◌, pow-add, ◌<◌, ◌≤◌, ◌-◌, ◌^◌, ◌+◌, ◌*◌, ◌∙◌, Option, ℕ, pos, negsuc, neg_ℤ, Bool, true, false, List, length, Some, None, refl, sym, ap, arith, zero, suc}
use Rattle.std.specs.Prelude.{option_and_then, nat_lt, nat_le}
use Rattle.std.proofs.Math.Nat.{pow-le-pow_right}
use Rattle.std.specs.Int.{w128}
use Rattle.std.specs.Str.{all_ascii_digits}
use Rattle.std.specs.Str.Parse.{AllDigits, digits_value, starts_with_minus}
use Rattle.std.proofs.lemmas.Str.Parse.{IsNumeralModel, numerals_by_value, tells_all_ascii_digits}
use Rattle.std.proofs.lemmas.Bool.{false≢true, lt-ltb, le-leb}
use Rattle.std.proofs.lemmas.Int.Digits.{digits_value-lt}
use Rattle.col_model.specs.Arithmetic.{Signed, word_values, fitting_value}
use Rattle.col_text.specs.Numbers.{natural_of, tick_fit, tick_of, behind_sign, with_sign}

own : IsNumeralModel (λ ds. all_ascii_digits ds ≡ true) (digits_value 10)
own = numerals_by_value _ tells_all_ascii_digits

some_by : (ds : List ℕ) (a b : Bool) → nat_lt 0 (length ds) ≡ a → all_ascii_digits ds ≡ b → a ≡ true → b ≡ true
    → Some (digits_value 10 ds) ≡ natural_of ds
some_by ds a b p q e f = rw (p, q, e, f) refl

-- digits are the number of their value
pub some_natural : (ds : List ℕ) → AllDigits 10 ds → 0 < length ds → Some (digits_value 10 ds) ≡ natural_of ds
some_natural ds all filled = some_by ds _ _ refl refl (lt-ltb 0 (length ds) filled) (own.from ds all)

-- one digit more keeps a value below the next power
pub digit_below : (v d i : ℕ) → v < 10 ^ i → d < 10 → v * 10 + d < 10 ^ (i + 1)
digit_below v d i below small = omega (arith, pow-add 10 i 1)

-- up to 19 digits 64 bits hold the value
pub below_top : (i : ℕ) → i ≤ 19 → 10 ^ i ≤ 2 ^ 64
below_top i h =
    let most : 10 ^ i ≤ 10 ^ 19 = pow-le-pow_right {n = 10} (omega arith) {j = 19} h in
    omega (arith, most)

natural-lt_by : (ds : List ℕ) (n : ℕ) (a b : Bool) → nat_lt 0 (length ds) ≡ a → all_ascii_digits ds ≡ b
    → length ds ≤ 19 → Some n ≡ natural_of ds → n < 2 ^ 64
natural-lt_by ds n true true p q few e =
    let is : Some n ≡ Some (digits_value 10 ds) = rw (p, q) at e in
    let same : n ≡ digits_value 10 ds = cc in
    let below = digits_value-lt 10 ds (own.to ds q) in
    let top = below_top (length ds) few in
    omega (arith, same, below, top)
natural-lt_by ds n true false p q few e =
    let is : Some n ≡ None = rw (p, q) at e in cc
natural-lt_by ds n false b p q few e =
    let is : Some n ≡ None = rw p at e in cc

-- 64 bits hold a number of few digits
pub natural-lt : (ds : List ℕ) (n : ℕ) → length ds ≤ 19 → Some n ≡ natural_of ds → n < 2 ^ 64
natural-lt ds n few e = natural-lt_by ds n _ _ refl refl few e

-- 128 bits hold what 64 bits without a sign hold
wide_by : (n : ℕ) (t : Bool) → n < 2 ^ 64 → nat_le n (2 ^ 127 - 1) ≡ t
    → fitting_value (word_values (Signed w128)) (pos n) ≡ Some (pos n)
wide_by n true h e = rw e refl
wide_by n false h e = absurd (false≢true (sym e ∙ (let le : n ≤ 2 ^ 127 - 1 = omega arith in le-leb n _ le)))

wide_pos : (n : ℕ) → n < 2 ^ 64 → fitting_value (word_values (Signed w128)) (pos n) ≡ Some (pos n)
wide_pos n h = wide_by n _ h refl

wide_neg_by : (n : ℕ) (t : Bool) → n < 2 ^ 64 → nat_le n (2 ^ 127 - 1) ≡ t
    → fitting_value (word_values (Signed w128)) (negsuc n) ≡ Some (negsuc n)
wide_neg_by n true h e = rw e refl
wide_neg_by n false h e = absurd (false≢true (sym e ∙ (let le : n ≤ 2 ^ 127 - 1 = omega arith in le-leb n _ le)))

wide_neg : (n : ℕ) → n < 2 ^ 64 → fitting_value (word_values (Signed w128)) (neg_ℤ (pos n)) ≡ Some (neg_ℤ (pos n))
wide_neg zero h = refl
wide_neg (suc n) h = wide_neg_by n _ (omega arith) refl

tick_by : (text : List ℕ) (minus : Bool) (natural : Option ℕ)
    → starts_with_minus text ≡ minus → natural_of (behind_sign text) ≡ natural
    → ((n : ℕ) → natural ≡ Some n → n < 2 ^ 64)
    → option_and_then (λ n. tick_fit (with_sign minus n)) natural ≡ tick_of text
tick_by text true None e h small =
    let plain = rw e at h in rw (e, plain) refl
tick_by text false None e h small =
    let plain = rw e at h in rw (e, plain) refl
tick_by text true (Some n) e h small =
    let plain = rw e at h in rw (e, plain) (rw (wide_neg n (small n refl)) refl)
tick_by text false (Some n) e h small =
    let plain = rw e at h in rw (e, plain) (rw (wide_pos n (small n refl)) refl)

-- the integer of a text is the number behind the sign, with the sign
pub tick_of-some : (text ds : List ℕ) (minus : Bool) (n : ℕ) → minus ≡ starts_with_minus text
    → ds ≡ behind_sign text → Some n ≡ natural_of ds → length ds ≤ 19
    → tick_fit (with_sign minus n) ≡ tick_of text
tick_of-some text ds minus n e is h few =
    tick_by text minus (Some n) (sym e) (ap natural_of (sym is) ∙ sym h)
    (λ m same. natural-lt ds m few (sym same ∙ h))
