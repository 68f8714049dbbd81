-- The quotient rounded down, by the one rounded towards zero.
use Rattle.std.specs.Prelude.{◌≡◌, ◌≢◌, ◌+◌, ◌-◌, ◌*◌, ◌/◌, ◌%◌, ◌^◌, ◌<◌, ◌+ℤ◌, ◌-ℤ◌, ◌*ℤ◌, ℕ, ℤ, zero, suc, pos, negsuc, neg_ℤ, true, false, Bool, FitsSigned, int_div, int_rem, int_lt}
use Rattle.std.specs.Int.{w128, cast_signed, cast_unsigned, int_wrapping_neg, int_wrap}
use Rattle.std.proofs.Common.{refl, ap, sym, subst, ◌∙◌, arith, inl, inr}
use Rattle.std.proofs.Math.Nat.{mod-lt, zero-div, div-one, div-le_self, div-lt_self}
use Rattle.std.proofs.Math.IntN.{*ℤ_comm, +ℤ_comm, pred_ℤ-*ℤ, -ℤ_one}
use Rattle.std.proofs.lemmas.Nat.{div-add-mod', div-mul-add}
use Rattle.std.proofs.lemmas.Int.{ints, to_z-of_z, wrapping_neg_is, quot-rem}
use Rattle.std.proofs.lemmas.Bool.{cases_lt}
use Rattle.std.specs.Int.Signed.{mag, mag_rem}
use Rattle.col_model.specs.Arithmetic.{Signed, wrapped_value, floor_by, floor_div, floor_mod}
use Rattle.col_kernel.specs.WordLaws.{wrapped-held}

-- ---- naturals

-- a and the number after it, where b divides that number
pub div-exact : (a b : ℕ) → 0 < b → suc a % b ≡ 0 → suc a / b ≡ suc (a / b)
div-exact a b h e =
    let split : suc a / b * b + suc a % b ≡ suc a = div-add-mod' (suc a) b in
    elim (suc a / b) as (λ q. q * b + suc a % b ≡ suc a → q ≡ suc (a / b)) [
      | zero ↦ λ s. absurd (omega arith)
      | suc q ↦ λ s.
          let is : a ≡ q * b + (b - 1) = omega arith in
          let small : b - 1 < b = omega arith in
          ap suc (sym (ap (λ (z : ℕ). z / b) is ∙ div-mul-add q b (b - 1) small))
    ] split

-- the same, where it leaves a rest
pub div-rest : (a b : ℕ) → 0 < b → 0 < suc a % b → suc a / b ≡ a / b
div-rest a b h e =
    let split : suc a / b * b + suc a % b ≡ suc a = div-add-mod' (suc a) b in
    let below : suc a % b < b = mod-lt (suc a) h in
    let is : a ≡ suc a / b * b + (suc a % b - 1) = omega arith in
    let small : suc a % b - 1 < b = omega arith in
    sym (ap (λ (z : ℕ). z / b) is ∙ div-mul-add (suc a / b) b (suc a % b - 1) small)

pub neg-step : (q : ℕ) → negsuc q ≡ neg_ℤ (pos q) -ℤ pos 1
neg-step q = omega (arith, ints)

neg-suc : (q : ℕ) → negsuc q ≡ neg_ℤ (pos (suc q))
neg-suc q = refl

-- a rest below 0 is not 0
neg-rest : (r : ℕ) → int_lt (neg_ℤ (pos r)) (pos 0) ≡ true → 0 < r
neg-rest zero h = absurd (cc)
neg-rest (suc r) h = omega arith

no-rest : (r : ℕ) → int_lt (neg_ℤ (pos r)) (pos 0) ≡ false → r ≡ 0
no-rest zero h = refl
no-rest (suc r) h = absurd (cc)

below-none : (r : ℕ) → int_lt (pos r) (pos 0) ≡ true → ⊥
below-none r h = absurd (grind (arith, ints))

above-some : (r : ℕ) → int_lt (pos 0) (pos r) ≡ true → 0 < r
above-some r h = grind (arith, ints)

above-none : (r : ℕ) → int_lt (pos 0) (pos r) ≡ false → r ≡ 0
above-none r h = grind (arith, ints)

not-above : (r : ℕ) → int_lt (pos 0) (neg_ℤ (pos r)) ≡ true → ⊥
not-above zero h = absurd (cc)
not-above (suc r) h = absurd (cc)

-- a sum of two signs
pub between_signs : (a b : ℕ) → a < 2 ^ 127 → b < 2 ^ 127 → FitsSigned w128 (negsuc a +ℤ pos b)
between_signs a b f g = elim (cases_lt b (suc a)) [
  | inl less ↦ let is : negsuc a +ℤ pos b ≡ negsuc (suc a - b - 1) = omega (arith, ints) in
      subst (λ (z : ℤ). FitsSigned w128 z) (sym is) (record { sfits = omega arith })
  | inr more ↦ let is : negsuc a +ℤ pos b ≡ pos (b - suc a) = omega (arith, ints) in
      subst (λ (z : ℤ). FitsSigned w128 z) (sym is) (record { sfits = omega arith })
]

-- ---- the four cases

-- by a positive divisor, where the rest is negative
pub floor-up_less : (x y : ℤ) → int_lt (pos 0) y ≡ true → int_lt (int_rem x y) (pos 0) ≡ true
    → floor_div x y ≡ int_div x y -ℤ pos 1
floor-up_less (pos a) y h r = absurd (below-none _ r)
floor-up_less (negsuc a) (pos b) h r = ap negsuc
    (sym (div-rest a b (above-some b h) (neg-rest _ r))) ∙ neg-step (suc a / b)
floor-up_less (negsuc a) (negsuc b) h r = absurd (cc)

-- by a positive divisor, where it is not
pub floor-up : (x y : ℤ) → int_lt (pos 0) y ≡ true → int_lt (int_rem x y) (pos 0) ≡ false
    → floor_div x y ≡ int_div x y
floor-up (pos a) (pos b) h r = refl
floor-up (pos a) (negsuc b) h r = absurd (cc)
floor-up (negsuc a) (pos b) h r = ap (λ (q : ℕ). neg_ℤ (pos q))
    (sym (div-exact a b (above-some b h) (no-rest _ r)))
floor-up (negsuc a) (negsuc b) h r = absurd (cc)

-- by a negative divisor, where the rest is positive
pub floor-down_less : (x y : ℤ) → y ≢ pos 0 → int_lt (pos 0) y ≡ false
    → int_lt (pos 0) (int_rem x y) ≡ true → floor_div x y ≡ int_div x y -ℤ pos 1
floor-down_less x (pos b) n h r = absurd (n (ap pos (above-none b h)))
floor-down_less (pos zero) (negsuc b) n h r = let some = above-some _ r in absurd (omega arith)
floor-down_less (pos (suc a)) (negsuc b) n h r =
    ap negsuc (sym (div-rest a (suc b) (omega arith) (above-some _ r))) ∙ neg-step (suc a / suc b)
floor-down_less (negsuc a) (negsuc b) n h r = absurd (not-above _ r)

-- by a negative divisor, where it is not
pub floor-down : (x y : ℤ) → y ≢ pos 0 → int_lt (pos 0) y ≡ false
    → int_lt (pos 0) (int_rem x y) ≡ false → floor_div x y ≡ int_div x y
floor-down x (pos b) n h r = absurd (n (ap pos (above-none b h)))
floor-down (pos zero) (negsuc b) n h r = ap pos (zero-div (suc b))
    ∙ ap (λ (q : ℕ). neg_ℤ (pos q)) (sym (zero-div (suc b)))
floor-down (pos (suc a)) (negsuc b) n h r =
    ap (λ (q : ℕ). neg_ℤ (pos q)) (sym (div-exact a (suc b) (omega arith) (above-none _ r)))
floor-down (negsuc a) (negsuc b) n h r = refl

-- ---- what they leave

mod-of-quot : (x y q r : ℤ) → floor_div x y ≡ q → q *ℤ y +ℤ r ≡ x → floor_mod x y ≡ r
mod-of-quot x y q r e s =
    let turned : y *ℤ floor_div x y ≡ q *ℤ y = ap (λ (z : ℤ). y *ℤ z) e ∙ *ℤ_comm y q in
    ap (λ (z : ℤ). x -ℤ z) turned ∙ ap (λ (z : ℤ). z -ℤ (q *ℤ y)) (sym s) ∙ cancel (q *ℤ y) r
  where
    cancel : (p r : ℤ) → (p +ℤ r) -ℤ p ≡ r
    cancel p r = omega (arith, ints)

pub mod-plain : (x y : ℤ) → floor_div x y ≡ int_div x y → floor_mod x y ≡ int_rem x y
mod-plain x y e = mod-of-quot x y (int_div x y) (int_rem x y) e (quot-rem x y)

pub mod-less : (x y : ℤ) → floor_div x y ≡ int_div x y -ℤ pos 1 → floor_mod x y ≡ int_rem x y +ℤ y
mod-less x y e =
    mod-of-quot x y (int_div x y -ℤ pos 1) (int_rem x y +ℤ y) e
    (ap (λ (z : ℤ). z +ℤ (int_rem x y +ℤ y))
    (ap (λ (z : ℤ). z *ℤ y) (-ℤ_one (int_div x y)) ∙ pred_ℤ-*ℤ (int_div x y) y)
    ∙ regroup (int_div x y *ℤ y) (int_rem x y) y ∙ quot-rem x y)
  where
    regroup : (p r y : ℤ) → (p -ℤ y) +ℤ (r +ℤ y) ≡ p +ℤ r
    regroup p r y = omega (arith, ints)

-- ---- as the goals at 128 bits stand

-- a 128-bit integer, from its bits
abbrev pub same : ℤ → ℤ
same x = cast_signed w128 (cast_unsigned w128 x)

neg_fits : (q : ℕ) → q < 2 ^ 127 + 1 → FitsSigned w128 (neg_ℤ (pos q))
neg_fits zero h = record { sfits = omega arith }
neg_fits (suc q) h = record { sfits = omega arith }

pub mag-neg : (r : ℕ) → mag (neg_ℤ (pos r)) ≡ r - 1
mag-neg zero = refl
mag-neg (suc r) = omega arith

rem_fits : (x y : ℤ) → FitsSigned w128 x → FitsSigned w128 (int_rem x y)
rem_fits x y f = record { sfits = omega (arith, mag_rem x y, f.sfits) }

-- the rest of each case, as the code computes it
pub rest-up_less : (x y : ℤ) → FitsSigned w128 x → FitsSigned w128 y → int_lt (pos 0) y ≡ true
    → int_lt (same (int_rem x y)) (pos 0) ≡ true
    → same (same (int_rem x y) +ℤ y) ≡ floor_mod x y
rest-up_less x y f g h r =
    let is = to_z-of_z w128 (int_rem x y) (rem_fits x y f) in
    let below : int_lt (int_rem x y) (pos 0) ≡ true = sym (ap (λ (z : ℤ). int_lt z (pos 0)) is)
    ∙ r in
    let fits = sum_fits (int_rem x y) y (rem_fits x y f) g h below in
    ap (λ (z : ℤ). same (z +ℤ y)) is ∙ to_z-of_z w128 (int_rem x y +ℤ y) fits
    ∙ sym (mod-less x y (floor-up_less x y h below))
  where
    sum_fits : (r y : ℤ) → FitsSigned w128 r → FitsSigned w128 y → int_lt (pos 0) y ≡ true
        → int_lt r (pos 0) ≡ true → FitsSigned w128 (r +ℤ y)
    sum_fits (pos a) y f g h below = absurd (below-none a below)
    sum_fits (negsuc a) (negsuc b) f g h below = absurd (cc)
    sum_fits (negsuc a) (pos b) f g h below = between_signs a b f.sfits g.sfits

-- by a positive divisor, the rest as it is
pub rest-up : (x y : ℤ) → FitsSigned w128 x → FitsSigned w128 y → int_lt (pos 0) y ≡ true
    → int_lt (same (int_rem x y)) (pos 0) ≡ false
    → same (int_rem x y) ≡ floor_mod x y
rest-up x y f g h r =
    let is = to_z-of_z w128 (int_rem x y) (rem_fits x y f) in
    is ∙ sym (mod-plain x y (floor-up x y h (sym (ap (λ (z : ℤ). int_lt z (pos 0)) is) ∙ r)))

-- by a negative divisor, the divisor added
pub rest-down_less : (x y : ℤ) → FitsSigned w128 x → FitsSigned w128 y → y ≢ pos 0
    → int_lt (pos 0) y ≡ false → int_lt (pos 0) (same (int_rem x y)) ≡ true
    → same (same (int_rem x y) +ℤ y) ≡ floor_mod x y
rest-down_less x y f g n h r =
    let is = to_z-of_z w128 (int_rem x y) (rem_fits x y f) in
    let above : int_lt (pos 0) (int_rem x y) ≡ true = sym (ap (λ (z : ℤ). int_lt (pos 0) z) is)
    ∙ r in
    let fits = sum_fits (int_rem x y) y (rem_fits x y f) g n h above in
    ap (λ (z : ℤ). same (z +ℤ y)) is ∙ to_z-of_z w128 (int_rem x y +ℤ y) fits
    ∙ sym (mod-less x y (floor-down_less x y n h above))
  where
    sum_fits : (r y : ℤ) → FitsSigned w128 r → FitsSigned w128 y → y ≢ pos 0
        → int_lt (pos 0) y ≡ false → int_lt (pos 0) r ≡ true → FitsSigned w128 (r +ℤ y)
    sum_fits r (pos b) f g n h above = absurd (n (ap pos (above-none b h)))
    sum_fits (negsuc a) (negsuc b) f g n h above = absurd (cc)
    sum_fits (pos a) (negsuc b) f g n h above =
        subst (λ (z : ℤ). FitsSigned w128 z) (+ℤ_comm (negsuc b) (pos a))
        (between_signs b a g.sfits f.sfits)

-- by a negative divisor, the rest as it is
pub rest-down : (x y : ℤ) → FitsSigned w128 x → FitsSigned w128 y → y ≢ pos 0
    → int_lt (pos 0) y ≡ false → int_lt (pos 0) (same (int_rem x y)) ≡ false
    → same (int_rem x y) ≡ floor_mod x y
rest-down x y f g n h r =
    let is = to_z-of_z w128 (int_rem x y) (rem_fits x y f) in
    is ∙ sym (mod-plain x y (floor-down x y n h (sym (ap (λ (z : ℤ). int_lt (pos 0) z) is) ∙ r)))

-- ---- quotients

-- y is -1, by its bits
abbrev IsMinusOne : ℤ → Type 0
IsMinusOne y = cast_unsigned w128 y ≡ 2 ^ 128 - 1

-- the quotient rounded towards zero has 128 bits, but for the least number by -1
pub quot_fits : (x y : ℤ) → FitsSigned w128 x → FitsSigned w128 y → (IsMinusOne y → ⊥)
    → FitsSigned w128 (int_div x y)
quot_fits (pos a) (pos b) f g n = record { sfits = omega (arith, f.sfits, div-le_self a b) }
quot_fits (pos a) (negsuc b) f g n = neg_fits (a / suc b)
    (omega (arith, f.sfits, div-le_self a (suc b)))
quot_fits (negsuc a) (pos b) f g n = neg_fits (suc a / b)
    (omega (arith, f.sfits, div-le_self (suc a) b))
quot_fits (negsuc a) (negsuc zero) f g n = absurd (n refl)
quot_fits (negsuc a) (negsuc (suc b)) f g n =
    record {
      sfits = omega (
        arith,
        f.sfits,
        div-lt_self {n = suc a} {k = suc (suc b)} (omega arith)
            (omega arith),
      );
    }

pub int_wrap-is : (z : ℤ) → int_wrap w128 z ≡ wrapped_value (Signed w128) z
unfolding int_wrap wrapped_value
int_wrap-is z = refl

-- by -1 the code negates, and wraps
pub quotient-minus_one : (x y r : ℤ) → FitsSigned w128 x → FitsSigned w128 y → FitsSigned w128 r
    → IsMinusOne y → r ≡ int_wrapping_neg w128 (same x)
    → same r ≡ wrapped_value (Signed w128) (floor_div x y)
quotient-minus_one x y r f g k e h =
    to_z-of_z w128 r k ∙ h ∙ ap (int_wrapping_neg w128) (to_z-of_z w128 x f)
    ∙ wrapping_neg_is w128 x f ∙ int_wrap-is (neg_ℤ x)
    ∙ ap (wrapped_value (Signed w128)) (sym (by_minus_one x y g e))
  where
    over_one : (z : ℤ) → floor_by z 1 ≡ z
    over_one (pos n) = ap pos (div-one n)
    over_one (negsuc n) = ap negsuc (div-one n)

    by_minus_one : (x y : ℤ) → FitsSigned w128 y → IsMinusOne y → floor_div x y ≡ neg_ℤ x
    by_minus_one x (pos n) g e = absurd (omega (arith, g.sfits))
    by_minus_one x (negsuc zero) g e = over_one (neg_ℤ x)
    by_minus_one x (negsuc (suc n)) g e = absurd (omega (arith, g.sfits))

-- a quotient that the branch takes as it is
pub quotient-plain : (x y : ℤ) → FitsSigned w128 x → FitsSigned w128 y → (IsMinusOne y → ⊥)
    → floor_div x y ≡ int_div x y
    → same (int_div x y) ≡ wrapped_value (Signed w128) (floor_div x y)
quotient-plain x y f g n e =
    let fits = quot_fits x y f g n in
    to_z-of_z w128 (int_div x y) fits
    ∙ sym (ap (wrapped_value (Signed w128)) e ∙ wrapped-held (Signed w128) (int_div x y) fits)

-- a quotient less 1
pub quotient-less : (x y : ℤ) → FitsSigned w128 x → FitsSigned w128 y → (IsMinusOne y → ⊥)
    → FitsSigned w128 (int_div x y -ℤ pos 1) → floor_div x y ≡ int_div x y -ℤ pos 1
    → same (same (int_div x y) -ℤ pos 1) ≡ wrapped_value (Signed w128) (floor_div x y)
quotient-less x y f g n k e =
    ap (λ (z : ℤ). same (z -ℤ pos 1)) (to_z-of_z w128 (int_div x y) (quot_fits x y f g n))
    ∙ to_z-of_z w128 (int_div x y -ℤ pos 1) k
    ∙ sym (ap (wrapped_value (Signed w128)) e
    ∙ wrapped-held (Signed w128) (int_div x y -ℤ pos 1) k)

-- a test of a rest, read back
pub read_test : (x y : ℤ) (b : Bool) (t : ℤ → Bool) → FitsSigned w128 x → t (same (int_rem x y)) ≡ b
    → t (int_rem x y) ≡ b
read_test x y b t f h = sym (ap t (to_z-of_z w128 (int_rem x y) (rem_fits x y f))) ∙ h

-- the quotient rounded down fits, but for the least number by -1
pub less_fits : (x y : ℤ) → FitsSigned w128 x → FitsSigned w128 y → (IsMinusOne y → ⊥) → y ≢ pos 0
    → floor_div x y ≡ int_div x y -ℤ pos 1 → FitsSigned w128 (int_div x y -ℤ pos 1)
less_fits x y f g n z e = subst (λ (z : ℤ). FitsSigned w128 z) e (floor_fits x y f g n z)
  where
    over_fits : (x : ℤ) (b : ℕ) → FitsSigned w128 x → FitsSigned w128 (floor_by x b)
    over_fits (pos a) b f = record { sfits = omega (arith, f.sfits, div-le_self a b) }
    over_fits (negsuc a) b f = record { sfits = omega (arith, f.sfits, div-le_self a b) }

    floor_fits : (x y : ℤ) → FitsSigned w128 x → FitsSigned w128 y → (IsMinusOne y → ⊥) → y ≢ pos 0
        → FitsSigned w128 (floor_div x y)
    floor_fits x (pos b) f g n z = over_fits x b f
    floor_fits x (negsuc zero) f g n z = absurd (n refl)
    floor_fits (pos zero) (negsuc (suc b)) f g n z = over_fits (pos 0) (suc (suc b)) f
    floor_fits (pos (suc a)) (negsuc (suc b)) f g n z =
        over_fits (negsuc a) (suc (suc b)) (record { sfits = omega (arith, f.sfits) })
    floor_fits (negsuc a) (negsuc (suc b)) f g n z =
        record {
          sfits = omega (
            arith,
            f.sfits,
            div-lt_self {n = suc a} {k = suc (suc b)}
                (omega arith) (omega arith),
          );
        }
