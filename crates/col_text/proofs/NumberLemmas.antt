-- What `parse` reads is the integer of the grammar.
use Rattle.std.proofs.Common.{◌≡◌, ◌<◌, ◌≤◌, ◌-◌, ◌^◌, Option, ℕ, ℤ, pos, negsuc, neg_ℤ, Bool, true, false, List, [], ◌∷◌, length, drop, Some, None, Result, Ok, Err, ◌⊎◌, inl, inr, refl, sym, ap, ◌∙◌, arith, nat_eq, get_or, zero, suc, lit<}
use Rattle.std.specs.Prelude.{option_map, option_and_then, nat_lt, nat_le}
use Rattle.std.specs.Int.{w128}
use Rattle.std.specs.Int.RustNames.{FitsSigned}
use Rattle.std.specs.Result.{OkIff, result_ok}
use Rattle.std.specs.Str.{all_ascii_digits, IsUtf8, IsAscii}
use Rattle.std.specs.Str.Parse.{IsNumeral, ParsesSigned, digits_value, starts_with_minus, without_leading_plus}
use Rattle.std.proofs.lemmas.Str.Parse.{IsNumeralModel, numerals_by_value, tells_all_ascii_digits}
use Rattle.std.proofs.lemmas.Bool.{false≢true, ltb-true, lt-ltb, leb-true, le-leb, eqb-true}
use Rattle.std.proofs.lemmas.Str.{IsUtf8-from_ascii}
use Rattle.std.proofs.lemmas.Fmt.{IsAscii-from_digits}
use Rattle.col_model.specs.Arithmetic.{Signed, word_values, fitting_value}
use Rattle.col_text.specs.Numbers.{natural_of, integer_of}

own : IsNumeralModel (λ ds. all_ascii_digits ds ≡ true) (digits_value 10)
own = numerals_by_value _ tells_all_ascii_digits

abbrev NaturalCases : List ℕ → Type 0
NaturalCases ds =
    ((natural_of ds ≡ Some (digits_value 10 ds)) × IsNumeral 10 ds)
    ⊎ ((natural_of ds ≡ None) × (IsNumeral 10 ds → ⊥))

natural_by : (ds : List ℕ) (a b : Bool) → nat_lt 0 (length ds) ≡ a → all_ascii_digits ds ≡ b
    → NaturalCases ds
natural_by ds true true p q = inl (rw (p, q) refl, (ltb-true 0 (length ds) p, own.to ds q))
natural_by ds true false p q = inr (rw (p, q) refl, λ h. false≢true (sym q ∙ own.from ds h.1))
natural_by ds false b p q = inr (rw p refl, λ h. false≢true (sym p ∙ lt-ltb 0 (length ds) h.0))

natural_cases : (ds : List ℕ) → NaturalCases ds
natural_cases ds = natural_by ds _ _ refl refl

-- the integer, where 128 bits hold it
abbrev fit : ℤ → Option ℤ
fit = fitting_value (word_values (Signed w128))

abbrev FitCases : ℤ → Type 0
FitCases z = ((fit z ≡ Some z) × FitsSigned w128 z) ⊎ ((fit z ≡ None) × (FitsSigned w128 z → ⊥))

below : (n : ℕ) → nat_le n (2 ^ 127 - 1) ≡ true → n < 2 ^ 127
below n e = let le : n ≤ 2 ^ 127 - 1 = leb-true n _ e in omega arith

within : (n : ℕ) → n < 2 ^ 127 → nat_le n (2 ^ 127 - 1) ≡ true
within n h = let le : n ≤ 2 ^ 127 - 1 = omega arith in le-leb n _ le

fit_pos : (n : ℕ) (t : Bool) → nat_le n (2 ^ 127 - 1) ≡ t → FitCases (pos n)
fit_pos n true e = inl (rw e refl, record { sfits = below n e })
fit_pos n false e = inr (rw e refl, λ h. false≢true (sym e ∙ within n h.sfits))

fit_negsuc : (n : ℕ) (t : Bool) → nat_le n (2 ^ 127 - 1) ≡ t → FitCases (negsuc n)
fit_negsuc n true e = inl (rw e refl, record { sfits = below n e })
fit_negsuc n false e = inr (rw e refl, λ h. false≢true (sym e ∙ within n h.sfits))

fit_cases : (z : ℤ) → FitCases z
fit_cases (pos n) = fit_pos n _ refl
fit_cases (negsuc n) = fit_negsuc n _ refl

part_by : {E : Type 0} (s : ℕ → ℤ) (ds : List ℕ) (r : Result ℤ E) → NaturalCases ds
    → FitCases (s (digits_value 10 ds))
    → OkIff r (IsNumeral 10 ds × FitsSigned w128 (s (digits_value 10 ds))) (s (digits_value 10 ds))
    → result_ok r ≡ option_and_then fit (option_map s (natural_of ds))
part_by s ds (Ok x) (inl n) (inl f) h = rw (n.0, f.0) (ap Some h.1)
part_by s ds (Ok x) (inl n) (inr f) h = absurd (f.1 h.0.1)
part_by s ds (Ok x) (inr n) f h = absurd (n.1 h.0.0)
part_by s ds (Err e) (inl n) (inl f) h = absurd (h (n.1, f.1))
part_by s ds (Err e) (inl n) (inr f) h = rw n.0 (sym f.0)
part_by s ds (Err e) (inr n) f h = rw n.0 refl

parsed_by : {E : Type 0} (bs : List ℕ) (r : Result ℤ E) (minus : Bool)
    → starts_with_minus bs ≡ minus → ParsesSigned w128 10 bs r → result_ok r ≡ integer_of bs
parsed_by bs r true e h =
    rw e (part_by (λ n. neg_ℤ (pos n)) (drop 1 bs) r (natural_cases _) (fit_cases _) (rw e at h))
parsed_by bs r false e h =
    rw e (part_by pos (without_leading_plus bs) r (natural_cases _) (fit_cases _) (rw e at h))

-- what is parsed is the integer of the grammar
pub integer_of-parsed : {E : Type 0} (bs : List ℕ) (r : Result ℤ E) → ParsesSigned w128 10 bs r
    → result_ok r ≡ integer_of bs
integer_of-parsed bs r h = parsed_by bs r _ refl h

IsAscii-cons : (b : ℕ) (bs : List ℕ) → b < 128 → IsAscii bs → IsAscii (b ∷ bs)
IsAscii-cons b bs h hs zero = h
IsAscii-cons b bs h hs (suc i) = hs i

-- a text without its first byte, a sign, is ASCII only where the text is
IsAscii-behind : (bs : List ℕ) (sign : ℕ) → get_or bs 0 0 ≡ sign → sign < 128 → IsAscii (drop 1 bs)
    → IsAscii bs
IsAscii-behind [] sign e h hs = hs
IsAscii-behind (b ∷ bs) sign e h hs = IsAscii-cons b bs (omega arith) hs

none_by : (s : ℕ → ℤ) (ds : List ℕ) → NaturalCases ds → (IsNumeral 10 ds → ⊥)
    → option_and_then fit (option_map s (natural_of ds)) ≡ None
none_by s ds (inl n) h = absurd (h n.1)
none_by s ds (inr n) h = rw n.0 refl

not_text_by : (bs : List ℕ) (minus plus : Bool) → starts_with_minus bs ≡ minus
    → nat_eq (get_or bs 0 0) 43 ≡ plus → (IsUtf8 bs → ⊥) → integer_of bs ≡ None
not_text_by bs true plus e p h =
    rw e (none_by (λ n. neg_ℤ (pos n)) (drop 1 bs) (natural_cases _)
    (λ n. h (IsUtf8-from_ascii bs
    (IsAscii-behind bs 45 (eqb-true _ _ e) (lit< tt) (IsAscii-from_digits _ n.1)))))
not_text_by bs false true e p h =
    rw (e, p) (none_by pos (drop 1 bs) (natural_cases _)
    (λ n. h (IsUtf8-from_ascii bs
    (IsAscii-behind bs 43 (eqb-true _ _ p) (lit< tt) (IsAscii-from_digits _ n.1)))))
not_text_by bs false false e p h =
    rw (e, p) (none_by pos bs (natural_cases _)
    (λ n. h (IsUtf8-from_ascii bs (IsAscii-from_digits _ n.1))))

-- bytes that are no text are no integer
pub integer_of-not_text : (bs : List ℕ) → (IsUtf8 bs → ⊥) → integer_of bs ≡ None
integer_of-not_text bs h = not_text_by bs _ _ refl refl h
