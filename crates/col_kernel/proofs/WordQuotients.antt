-- Quotients, rests, magnitudes and negatives at 128 bits, wrapped at the word.
use Rattle.std.specs.Prelude.{◌≡◌, ◌≢◌, ◌-◌, ◌/◌, ◌%◌, ◌^◌, ◌<◌, ◌≤◌, ◌+ℤ◌, ◌*ℤ◌, ℕ, ℤ, zero, suc, pos, negsuc, neg_ℤ, true, FitsSigned, int_div, unsigned_abs}
use Rattle.std.specs.Option.{option_and_then}
use Rattle.std.specs.Int.{Width, w128, cast_signed, cast_unsigned, int_wrapping_neg}
use Rattle.std.proofs.Common.{Some, None, lt_of_le_of_lt, refl, ap, sym, subst, ◌∙◌, arith, inl, inr}
use Rattle.std.proofs.Math.Nat.{mod-eq_of_lt, mod-le, zero-mod, mod-lt, zero-div, div-le_self}
use Rattle.std.proofs.lemmas.Int.{ints, to_z-of_z, wrapping_neg_is}
use Rattle.std.proofs.lemmas.Bool.{cases_lt}
use Rattle.std.specs.Int.Signed.{mag}
use Rattle.num_traits.specs.Ints.{pos-of-ne, signed-size}
use mir.Val.{hbits}
use Rattle.col_model.specs.Arithmetic.{WordType, Signed, Unsigned, fitting_value, is_within, word_values, wrapped_value, floor_div, floor_mod, unless_zero}
use Rattle.col_kernel.specs.WordLaws.{IsHeld, held_from_within, wrapped-held}
use Rattle.col_kernel.proofs.WordLemmas.{fitting_value-not_held, wrapped_value-wrap_signed}
use Rattle.col_kernel.proofs.Rounding.{same, int_wrap-is, mag-neg, neg-step, div-exact, div-rest, mod-plain, mod-less}

-- a divisor that is not 0
pub unless-some : (y x : ℤ) → y ≢ pos 0 → unless_zero y x ≡ Some x
unless-some (pos zero) x h = absurd (h refl)
unless-some (pos (suc n)) x h = refl
unless-some (negsuc n) x h = refl

-- the code has tested that the divisor is not 0
pub not_zero : (d y : ℤ) → (cast_unsigned w128 d ≡ 0 → ⊥) → d ≡ y → y ≢ pos 0
not_zero d y h e z = h (ap (cast_unsigned w128) (e ∙ z))

-- to wrap at 128 bits first changes nothing
wrapped_value-wrapped_value : (s : WordType) (x : ℤ)
    → wrapped_value s (wrapped_value (Signed w128) x) ≡ wrapped_value s x
unfolding wrapped_value
wrapped_value-wrapped_value s x = wrapped_value-wrap_signed s x

-- the quotient rounded down, wrapped at 128 bits and then at the word
pub wrapped_value-quotient : (s : WordType) (x y a b q : ℤ) → FitsSigned w128 x → FitsSigned w128 y
    → FitsSigned w128 q → x ≡ a → y ≡ b
    → q ≡ wrapped_value (Signed w128) (floor_div (same x) (same y))
    → wrapped_value s (same q) ≡ wrapped_value s (floor_div a b)
wrapped_value-quotient s x y a b q f g k p r e =
    ap (wrapped_value s) (to_z-of_z w128 q k ∙ e)
    ∙ wrapped_value-wrapped_value s (floor_div (same x) (same y))
    ∙ ap (λ (z : ℤ). wrapped_value s (floor_div z (same y))) (to_z-of_z w128 x f ∙ p)
    ∙ ap (λ (z : ℤ). wrapped_value s (floor_div a z)) (to_z-of_z w128 y g ∙ r)

-- a number of at most 128 bits, read as a signed one
wrapped_value-bits : (z : ℤ) → mag z < 2 ^ 128 → same z ≡ wrapped_value (Signed w128) z
unfolding wrapped_value
wrapped_value-bits (pos n) h = ap (cast_signed w128) (sym (mod-eq_of_lt h))
wrapped_value-bits (negsuc n) h =
    let is : 2 ^ 128 - suc n ≡ 2 ^ 128 - 1 - n % 2 ^ 128 = omega (arith, mod-eq_of_lt h) in
    ap (cast_signed w128) is

quot_small : (x y : ℤ) → FitsSigned w128 x → mag (int_div x y) < 2 ^ 128
quot_small (pos a) (pos b) f = omega (arith, f.sfits, div-le_self a b)
quot_small (pos a) (negsuc b) f = omega (arith, mag-neg (a / suc b), f.sfits, div-le_self a (suc b))
quot_small (negsuc a) (pos b) f = omega (arith, mag-neg (suc a / b), f.sfits, div-le_self (suc a) b)
quot_small (negsuc a) (negsuc b) f = omega (arith, f.sfits, div-le_self (suc a) (suc b))

-- the quotient rounded towards zero, wrapped at 128 bits and then at the word
pub wrapped_value-trunc : (s : WordType) (x y a b q : ℤ) → FitsSigned w128 x → FitsSigned w128 y
    → FitsSigned w128 q → x ≡ a → y ≡ b
    → q ≡ same (int_div (same x) (same y)) → wrapped_value s (same q) ≡ wrapped_value s
    (int_div a b)
wrapped_value-trunc s x y a b q f g k p r e =
    ap (wrapped_value s)
    (to_z-of_z w128 q k ∙ e ∙ wrapped_value-bits (int_div (same x) (same y)) small)
    ∙ wrapped_value-wrapped_value s (int_div (same x) (same y))
    ∙ ap (λ (z : ℤ). wrapped_value s (int_div z (same y))) (is ∙ p)
    ∙ ap (λ (z : ℤ). wrapped_value s (int_div a z)) (to_z-of_z w128 y g ∙ r)
  where
    is : same x ≡ x
    is = to_z-of_z w128 x f

    small : mag (int_div (same x) (same y)) < 2 ^ 128
    small = quot_small (same x) (same y) (subst (λ (z : ℤ). FitsSigned w128 z) (sym is) f)

-- what a quotient rounded down leaves lies between 0 and the divisor
mod-natural : (a b : ℕ) → floor_mod (pos a) (pos b) ≡ pos (a % b)
mod-natural a b = mod-plain (pos a) (pos b) refl

mod-both : (a b : ℕ) → floor_mod (negsuc a) (negsuc b) ≡ neg_ℤ (pos (suc a % suc b))
mod-both a b = mod-plain (negsuc a) (negsuc b) refl

mod-low : (a b : ℕ) → 0 < b → (r : ℕ) × (r < b) × (floor_mod (negsuc a) (pos b) ≡ pos r)
mod-low a b h = elim (cases_lt 0 (suc a % b)) [
  | inl some ↦
      let small : suc a % b < b = mod-lt (suc a) h in
      let is = mod-less (negsuc a) (pos b)
      (ap negsuc (sym (div-rest a b h some)) ∙ neg-step (suc a / b)) in
      (b - suc a % b, omega arith, is ∙ turn (suc a % b) b small)
  | inr none ↦
      let zero_is : suc a % b ≡ 0 = omega arith in
      let is = mod-plain (negsuc a) (pos b)
      (ap (λ (q : ℕ). neg_ℤ (pos q)) (sym (div-exact a b h zero_is))) in
      (0, h, is ∙ ap (λ (r : ℕ). neg_ℤ (pos r)) zero_is)
]
  where
    turn : (r b : ℕ) → r < b → neg_ℤ (pos r) +ℤ pos b ≡ pos (b - r)
    turn r b h = omega (arith, ints)

mod-high : (a b : ℕ) → (r : ℕ) × (r < suc b) × (floor_mod (pos a) (negsuc b) ≡ neg_ℤ (pos r))
mod-high zero b = (
  0,
  omega arith,
  mod-plain (pos 0) (negsuc b)
      (ap pos (zero-div (suc b)) ∙ ap (λ (q : ℕ). neg_ℤ (pos q)) (sym (zero-div (suc b))))
      ∙ ap pos (zero-mod (suc b)),
)
mod-high (suc a) b = elim (cases_lt 0 (suc a % suc b)) [
  | inl some ↦
      let small : suc a % suc b < suc b = mod-lt (suc a) (omega arith) in
      let is = mod-less (pos (suc a)) (negsuc b)
      (ap negsuc (sym (div-rest a (suc b) (omega arith) some)) ∙ neg-step (suc a / suc b)) in
      (suc b - suc a % suc b, omega arith, is ∙ turn (suc a % suc b) b small)
  | inr none ↦
      let zero_is : suc a % suc b ≡ 0 = omega arith in
      let is = mod-plain (pos (suc a)) (negsuc b)
      (ap (λ (q : ℕ). neg_ℤ (pos q)) (sym (div-exact a (suc b) (omega arith) zero_is))) in
      (0, omega arith, is ∙ ap (λ (r : ℕ). pos r) zero_is)
]
  where
    turn : (r b : ℕ) → r < suc b → pos r +ℤ negsuc b ≡ neg_ℤ (pos (suc b - r))
    turn r b h = omega (arith, ints)

signed_small : (w : Width) (r n : ℕ) (z : ℤ) → z ≡ neg_ℤ (pos r) → r ≤ suc n → n < 2 ^ hbits w
    → FitsSigned w z
signed_small w r n z e h k = record { sfits = omega (arith, ap mag e, mag-neg r) }

-- the rest by a number of the word is one of the word
pub IsHeld-mod : (s : WordType) (x y : ℤ) → y ≢ pos 0 → IsHeld s x → IsHeld s y
    → IsHeld s (floor_mod x y)
IsHeld-mod (Signed w) (pos a) (pos b) n f g =
    subst (λ (z : ℤ). FitsSigned w z) (sym (mod-natural a b))
    (record { sfits = lt_of_le_of_lt (mod-le a b) f.sfits })
IsHeld-mod (Signed w) (negsuc a) (pos b) n f g =
    let m = mod-low a b (pos-of-ne b n) in
    let less : m.0 < 2 ^ hbits w = omega (arith, m.1, g.sfits) in
    subst (λ (z : ℤ). FitsSigned w z) (sym m.2) (record { sfits = less })
IsHeld-mod (Signed w) (pos a) (negsuc b) n f g =
    let m = mod-high a b in
    let less : m.0 ≤ suc b = omega (arith, m.1) in
    signed_small w m.0 b (floor_mod (pos a) (negsuc b)) m.2 less g.sfits
IsHeld-mod (Signed w) (negsuc a) (negsuc b) n f g =
    let small : suc a % suc b < suc b = mod-lt (suc a) (omega arith) in
    signed_small w (suc a % suc b) b (floor_mod (negsuc a) (negsuc b)) (mod-both a b)
    (omega arith) g.sfits
IsHeld-mod (Unsigned w) (pos a) (pos b) n f g =
    subst (λ (z : ℤ). IsHeld (Unsigned w) z) (sym (mod-natural a b)) (lt_of_le_of_lt (mod-le a b) f)
IsHeld-mod (Unsigned w) (pos a) (negsuc b) n f g = absurd g
IsHeld-mod (Unsigned w) (negsuc a) y n f g = absurd f

-- the rest at 128 bits, read
rest-read : (x y a b m : ℤ) → FitsSigned w128 x → FitsSigned w128 y → x ≡ a → y ≡ b
    → m ≡ floor_mod (same x) (same y) → m ≡ floor_mod a b
rest-read x y a b m f g p r e =
    e ∙ ap (λ (z : ℤ). floor_mod z (same y)) (to_z-of_z w128 x f ∙ p)
    ∙ ap (λ (z : ℤ). floor_mod a z) (to_z-of_z w128 y g ∙ r)

-- the rest, wrapped at the word
pub wrapped_value-mod : (s : WordType) (x y a b m : ℤ) → FitsSigned w128 x → FitsSigned w128 y
    → FitsSigned w128 m → x ≡ a → y ≡ b
    → m ≡ floor_mod (same x) (same y) → wrapped_value s (same m) ≡ wrapped_value s (floor_mod a b)
wrapped_value-mod s x y a b m f g k p r e =
    ap (wrapped_value s) (to_z-of_z w128 m k ∙ rest-read x y a b m f g p r e)

-- and it does not wrap
pub rest-wraps_not : (s : WordType) (x y : ℤ) → y ≢ pos 0 → IsHeld s x → IsHeld s y
    → wrapped_value s (floor_mod x y) ≡ floor_mod x y
rest-wraps_not s x y n h i = wrapped-held s (floor_mod x y) (IsHeld-mod s x y n h i)

-- the product of two readings
pub read_product : (x y a b : ℤ) → FitsSigned w128 x → FitsSigned w128 y → x ≡ a → y ≡ b
    → same x *ℤ same y ≡ a *ℤ b
read_product x y a b f g p q =
    ap (λ (z : ℤ). z *ℤ same y) (to_z-of_z w128 x f ∙ p)
    ∙ ap (λ (z : ℤ). a *ℤ z) (to_z-of_z w128 y g ∙ q)

-- ---- the quotient where the word has it

quotient-read : (x y a b : ℤ) → FitsSigned w128 x → FitsSigned w128 y → x ≡ a → y ≡ b
    → int_div (same x) (same y) ≡ int_div a b
quotient-read x y a b f g p q =
    ap (λ (z : ℤ). int_div z (same y)) (to_z-of_z w128 x f ∙ p)
    ∙ ap (λ (z : ℤ). int_div a z) (to_z-of_z w128 y g ∙ q)

-- the quotient that 128 bits have, where the word has it
pub quotient-some : (t : WordType) (x y a b q : ℤ) → FitsSigned w128 x → FitsSigned w128 y
    → FitsSigned w128 q → x ≡ a → y ≡ b
    → 0 < cast_unsigned w128 (same y) → q ≡ int_div (same x) (same y)
    → fitting_value (word_values t) (same q) ≡ option_and_then (fitting_value (word_values t))
    (unless_zero b (int_div a b))
quotient-some t x y a b q f g k p r nonzero e =
    ap (fitting_value (word_values t)) (to_z-of_z w128 q k ∙ e ∙ quotient-read x y a b f g p r)
    ∙ sym (ap (option_and_then (fitting_value (word_values t))) (unless-some b (int_div a b) some))
  where
    some : b ≢ pos 0
    some zero_is =
        let none : 0 < 0 = subst (λ (z : ℤ). 0 < cast_unsigned w128 z)
        (to_z-of_z w128 y g ∙ r ∙ zero_is) nonzero in
        absurd (omega arith)

-- a quotient that 128 bits do not have
pub quotient-none : (t : WordType) (x y a b : ℤ) → FitsSigned w128 x → FitsSigned w128 y → x ≡ a
    → y ≡ b
    → ((0 < cast_unsigned w128 (same y)) × FitsSigned w128 (int_div (same x) (same y)) → ⊥)
    → ((z : ℤ) → is_within (word_values t) z ≡ true
    → is_within (word_values (Signed w128)) z ≡ true)
    → None ≡ option_and_then (fitting_value (word_values t)) (unless_zero b (int_div a b))
quotient-none t x y a (pos zero) f g p r refused wide = refl
quotient-none t x y a (pos (suc n)) f g p r refused wide =
    let some : 0 < cast_unsigned w128 (pos (suc n)) = omega arith in
    sym (fitting_value-not_held t (int_div a (pos (suc n))) (λ within.
    refused (
      subst (λ (z : ℤ). 0 < cast_unsigned w128 z) (sym (to_z-of_z w128 y g ∙ r)) some,
      subst (λ (z : ℤ). FitsSigned w128 z) (sym (quotient-read x y a (pos (suc n)) f g p r))
          (held_from_within (Signed w128) _ (wide _ within)),
    )))
quotient-none t x y a (negsuc n) f g p r refused wide =
    let fits : FitsSigned w128 (negsuc n) = subst (λ (z : ℤ). FitsSigned w128 z) r g in
    let some : 0 < cast_unsigned w128 (negsuc n) = omega (arith, fits.sfits) in
    sym (fitting_value-not_held t (int_div a (negsuc n)) (λ within.
    refused (
      subst (λ (z : ℤ). 0 < cast_unsigned w128 z) (sym (to_z-of_z w128 y g ∙ r)) some,
      subst (λ (z : ℤ). FitsSigned w128 z) (sym (quotient-read x y a (negsuc n) f g p r))
          (held_from_within (Signed w128) _ (wide _ within)),
    )))

-- ---- magnitude and negative

-- the magnitude, wrapped at 128 bits and then at the word
pub wrapped_value-abs : (t : WordType) (x a r : ℤ) → FitsSigned w128 x → FitsSigned w128 r → x ≡ a
    → r ≡ cast_signed w128 (unsigned_abs (same x))
    → wrapped_value t (same r) ≡ wrapped_value t (pos (unsigned_abs a))
wrapped_value-abs t x a r f k p e =
    ap (wrapped_value t)
    (to_z-of_z w128 r k ∙ e ∙ ap (λ (z : ℤ). cast_signed w128 (unsigned_abs z))
    (to_z-of_z w128 x f ∙ p) ∙ wrapped_value-bits (pos (unsigned_abs a)) small)
    ∙ wrapped_value-wrapped_value t (pos (unsigned_abs a))
  where
    small : unsigned_abs a < 2 ^ 128
    small = signed-size w128 a (subst (λ (z : ℤ). FitsSigned w128 z) p f)

-- the negative, wrapped at 128 bits and then at the word
pub wrapped_value-neg : (t : WordType) (x a r : ℤ) → FitsSigned w128 x → FitsSigned w128 r → x ≡ a
    → r ≡ int_wrapping_neg w128 (same x)
    → wrapped_value t (same r) ≡ wrapped_value t (neg_ℤ a)
wrapped_value-neg t x a r f k p e =
    ap (wrapped_value t)
    (to_z-of_z w128 r k ∙ e ∙ ap (int_wrapping_neg w128) (to_z-of_z w128 x f ∙ p)
    ∙ wrapping_neg_is w128 a (subst (λ (z : ℤ). FitsSigned w128 z) p f) ∙ int_wrap-is (neg_ℤ a))
    ∙ wrapped_value-wrapped_value t (neg_ℤ a)
