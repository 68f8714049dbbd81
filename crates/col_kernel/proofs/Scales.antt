-- Powers of ten at 128 bits, and decimals of few digits.
use Rattle.std.specs.Prelude.{◌≡◌, ◌^◌, ◌<◌, ◌≤◌, ◌-◌, ◌*ℤ◌, ℕ, ℤ, zero, suc, pos, negsuc, neg_ℤ, true, cond, Option, Some, None, FitsSigned, int_div, int_le, unsigned_abs, unwrap_or}
use Rattle.std.specs.Int.{w128, cast_signed, cast_unsigned}
use Rattle.std.proofs.Common.{refl, ap, sym, subst, ◌∙◌, arith, inl, inr, lit<, lt_of_le_of_lt}
use Rattle.std.proofs.Math.Nat.{pow-le-pow_right, one-le-pow, div-one}
use Rattle.std.proofs.Math.Dec.{leb, leb-zero}
use Rattle.std.proofs.lemmas.Bool.{and_from, and_parts, cases_Bool, leb-true, le-leb, le-ltb, lt-ltb}
use Rattle.std.proofs.lemmas.Int.{ints, fits_signed_from_abs, to_z-of_z, quot_fits}
use Rattle.col_types.specs.DataType.{max_digits}
use Rattle.col_model.specs.Arithmetic.{Interval, is_within, decimal_values, fitting_decimal, rescaled_value, trunc_by}

ten-below : (k : ℕ) → k ≤ 38 → 10 ^ k < 2 ^ 127
ten-below k h = lt_of_le_of_lt (pow-le-pow_right {n = 10} (omega arith) h) (lit< tt)

-- a power of ten that 128 bits hold
pub ten_fits : (k : ℕ) → k ≤ 38 → FitsSigned w128 (pos (10 ^ k))
ten_fits k h = record { sfits = ten-below k h }

-- a power of ten is above 0
pub ten_pos : (k : ℕ) → 0 < 10 ^ k
ten_pos k = one-le-pow k 10 (omega arith)

-- the integers from -m to m
abbrev around : ℕ → Interval
around m = record { low = neg_ℤ (pos m); high = pos m }

within-around : (m : ℕ) (x : ℤ) → is_within (around m) x ≡ true → unsigned_abs x ≤ m
within-around m (pos n) within = leb-true n m
    ((and_parts (int_le (neg_ℤ (pos m)) (pos n)) (int_le (pos n) (pos m)) within).1)
within-around zero (negsuc n) within = absurd (cc)
within-around (suc m) (negsuc n) within =
    let below = leb-true n m ((and_parts (int_le (negsuc m) (negsuc n)) true within).0) in
    omega arith

around-within : (m : ℕ) (x : ℤ) → unsigned_abs x ≤ m → is_within (around m) x ≡ true
around-within zero (pos n) few = and_from (leb 0 n) (leb n 0) (leb-zero n) (le-leb n 0 few)
around-within (suc m) (pos n) few = le-leb n (suc m) few
around-within zero (negsuc n) few = absurd (omega arith)
around-within (suc m) (negsuc n) few = and_from (leb n m) true (le-leb n m (omega arith)) refl

-- a magnitude past 128 bits has more digits than any precision allows
pub fitting_decimal-past : (p : Option ℕ) (x : ℤ) → unwrap_or p max_digits ≤ max_digits
    → (FitsSigned w128 x → ⊥) → fitting_decimal p x ≡ None
fitting_decimal-past p x h past = elim (cases_Bool (is_within (decimal_values p) x)) [
  | inl holds ↦
      let few : unsigned_abs x ≤ 10 ^ unwrap_or p max_digits - 1 =
      within-around (10 ^ unwrap_or p max_digits - 1) x holds in
      let some = ten_pos (unwrap_or p max_digits) in
      let below = ten-below (unwrap_or p max_digits) h in
      absurd (past (fits_signed_from_abs w128 x (omega arith)))
  | inr fails ↦ ap (λ b. cond b (Some x) None) fails
]

-- what the division asks
pub can_divide : (x d : ℤ) (k : ℕ) → FitsSigned w128 x → d ≡ pos (10 ^ k) → k ≤ 38
    → (0 < cast_unsigned w128 d) × FitsSigned w128
    (int_div (cast_signed w128 (cast_unsigned w128 x))
    (cast_signed w128 (cast_unsigned w128 d)))
can_divide x d k f e h =
    let fits : FitsSigned w128 d = subst (λ (z : ℤ). FitsSigned w128 z) (sym e) (ten_fits k h) in
    let some = ten_pos k in
    let above = subst (λ (z : ℤ). 0 < cast_unsigned w128 z) (sym e) some in (
      above,
      subst (λ (z : ℤ). FitsSigned w128 z)
          (ap (λ (z : ℤ). int_div z (cast_signed w128 (cast_unsigned w128 d)))
          (sym (to_z-of_z w128 x f)))
          (subst (λ (z : ℤ). FitsSigned w128 (int_div x z)) (sym (to_z-of_z w128 d fits))
          (subst (λ (z : ℤ). FitsSigned w128 (int_div x z)) (sym e)
          (quot_fits w128 x (pos (10 ^ k)) f (omega (arith, ints))))),
    )

-- a product that 128 bits do not hold has no slot
pub rescaled_value-past : (from to : ℕ) (p : Option ℕ) (x d : ℤ)
    → unwrap_or p max_digits ≤ max_digits → to ≤ max_digits → from < to → FitsSigned w128 x
    → d ≡ pos (10 ^ (to - from))
    → (FitsSigned w128
    (cast_signed w128 (cast_unsigned w128 x) *ℤ cast_signed w128 (cast_unsigned w128 d)) → ⊥)
    → None ≡ rescaled_value from to p x
rescaled_value-past from to p x d h top less f e n =
    let fits : FitsSigned w128 d = subst (λ (z : ℤ). FitsSigned w128 z) (sym e)
    (ten_fits (to - from) (omega arith)) in
    let product =
    ap (λ (z : ℤ). z *ℤ cast_signed w128 (cast_unsigned w128 d)) (to_z-of_z w128 x f)
    ∙ ap (λ (z : ℤ). x *ℤ z) (to_z-of_z w128 d fits ∙ e)
    in
    let past = fitting_decimal-past p (x *ℤ pos (10 ^ (to - from))) h
    (λ k. n (subst (λ (z : ℤ). FitsSigned w128 z) (sym product) k)) in
    sym (ap (λ b.
    fitting_decimal p (cond b (x *ℤ pos (10 ^ (to - from))) (trunc_by x (10 ^ (from - to)))))
    (lt-ltb from to less) ∙ past)

trunc_by-one : (x : ℤ) → trunc_by x 1 ≡ x
trunc_by-one (pos n) = ap pos (div-one n)
trunc_by-one (negsuc n) = ap (λ (q : ℕ). neg_ℤ (pos q)) (div-one (suc n))

-- the same scale
pub rescaled_value-same : (from to : ℕ) (p : Option ℕ) (x : ℤ) → from ≡ to
    → rescaled_value from to p x ≡ fitting_decimal p x
rescaled_value-same from to p x e =
    let none : from - to ≡ 0 = omega arith in
    ap (λ b. fitting_decimal p
    (cond b (x *ℤ pos (10 ^ (to - from))) (trunc_by x (10 ^ (from - to)))))
    (le-ltb from to (omega arith))
    ∙ ap (λ (k : ℕ). fitting_decimal p (trunc_by x (10 ^ k))) none
    ∙ ap (fitting_decimal p) (trunc_by-one x)

-- ---- decimals by their magnitude

fitting_decimal-few : (p : Option ℕ) (x : ℤ) → unsigned_abs x < 10 ^ unwrap_or p max_digits
    → fitting_decimal p x ≡ Some x
fitting_decimal-few p x few =
    let most : unsigned_abs x ≤ 10 ^ unwrap_or p max_digits - 1 = omega arith in
    ap (λ b. cond b (Some x) None) (around-within (10 ^ unwrap_or p max_digits - 1) x most)

fitting_decimal-many : (p : Option ℕ) (x : ℤ) → 10 ^ unwrap_or p max_digits ≤ unsigned_abs x
    → fitting_decimal p x ≡ None
fitting_decimal-many p x many = elim (cases_Bool (is_within (decimal_values p) x)) [
  | inl holds ↦
      let few : unsigned_abs x ≤ 10 ^ unwrap_or p max_digits - 1 =
      within-around (10 ^ unwrap_or p max_digits - 1) x holds in
      let some = ten_pos (unwrap_or p max_digits) in
      absurd (omega arith)
  | inr fails ↦ ap (λ b. cond b (Some x) None) fails
]

-- what the code compares
bound-read : (p : Option ℕ) (t : ℤ) (k : ℕ) → unwrap_or p max_digits ≤ max_digits → t ≡ pos (10 ^ k)
    → k ≡ unwrap_or p max_digits
    → unsigned_abs (cast_signed w128 (cast_unsigned w128 t)) ≡ 10 ^ unwrap_or p max_digits
bound-read p t k h e d =
    ap (λ (z : ℤ). unsigned_abs (cast_signed w128 (cast_unsigned w128 z)))
    (e ∙ ap (λ (i : ℕ). pos (10 ^ i)) d)
    ∙ ap unsigned_abs
    (to_z-of_z w128 (pos (10 ^ unwrap_or p max_digits)) (ten_fits (unwrap_or p max_digits) h))

-- a value with few digits enough
pub few_digits : (p : Option ℕ) (x t : ℤ) (k a b : ℕ) → FitsSigned w128 x
    → unwrap_or p max_digits ≤ max_digits → t ≡ pos (10 ^ k) → k ≡ unwrap_or p max_digits
    → a ≡ unsigned_abs (cast_signed w128 (cast_unsigned w128 x))
    → b ≡ unsigned_abs (cast_signed w128 (cast_unsigned w128 t)) → a < b
    → Some (cast_signed w128 (cast_unsigned w128 x)) ≡ fitting_decimal p x
few_digits p x t k a b f h e d q r less =
    let magnitude = q ∙ ap unsigned_abs (to_z-of_z w128 x f) in
    let bound = r ∙ bound-read p t k h e d in
    ap Some (to_z-of_z w128 x f) ∙ sym (fitting_decimal-few p x (omega arith))

-- and one with more
pub many_digits : (p : Option ℕ) (x t : ℤ) (k a b : ℕ) → FitsSigned w128 x
    → unwrap_or p max_digits ≤ max_digits → t ≡ pos (10 ^ k) → k ≡ unwrap_or p max_digits
    → a ≡ unsigned_abs (cast_signed w128 (cast_unsigned w128 x))
    → b ≡ unsigned_abs (cast_signed w128 (cast_unsigned w128 t)) → b ≤ a
    → None ≡ fitting_decimal p x
many_digits p x t k a b f h e d q r more =
    let magnitude = q ∙ ap unsigned_abs (to_z-of_z w128 x f) in
    let bound = r ∙ bound-read p t k h e d in
    sym (fitting_decimal-many p x (omega arith))
