-- What the bodies of `Word` and its impls compute, as wrapped integers.
use Rattle.std.specs.Prelude.{◌≡◌, ◌+◌, ◌-◌, ◌*◌, ◌/◌, ◌%◌, ◌^◌, ◌<◌, ◌+ℤ◌, ◌-ℤ◌, ◌*ℤ◌, ℕ, ℤ, suc, pos, negsuc, true, Some, None, cond, FitsSigned, unsigned_abs, bit_and}
use Rattle.std.specs.Int.{Width, w8, w16, w32, w64, w128, cast_signed, cast_unsigned}
use Rattle.std.specs.Int.{int_wrapping_add, int_wrapping_sub, int_wrapping_mul, ◌∣◌}
use Rattle.std.proofs.Common.{refl, ap, sym, subst, ◌∙◌, arith, inl, inr, mod-lt}
use Rattle.std.proofs.lemmas.Bool.{cases_Bool}
use Rattle.std.proofs.Math.Nat.{mod-eq_of_lt, mod-mod_of_dvd, dvd-mul_left, add-mul}
use Rattle.std.proofs.lemmas.Nat.{div-add-mod', div_below, mod-mul-add, pow_pos, and_mask}
use Rattle.std.proofs.lemmas.Int.{of_z-to_z, to_z-of_z, to_z_pos}
use Rattle.num_traits.specs.Laws.{bit_len, wrap_signed, wrap_unsigned}
use Rattle.num_traits.specs.Ints.{signed-wrap, signed-wrap_fits, signed-wrapping_add, signed-wrapping_sub, signed-wrapping_mul}
use Rattle.col_model.specs.Arithmetic.{WordType, Signed, Unsigned, fitting_value, is_within, word_values, wrapped_value}
use Rattle.col_kernel.specs.WordLaws.{IsHeld, held_from_within, wrapped-held, read_signed, read_unsigned}

-- ---- residues

-- what is left of x modulo 2 ^ k
abbrev pub residue : ℕ → ℤ → ℕ
residue k x = unsigned_abs (wrap_unsigned k x)

-- counted from the top down: m blocks of n
flip-mod : (m n r : ℕ) → 0 < n → r < m * n → (m * n - 1 - r) % n ≡ n - 1 - r % n
flip-mod m n r h below =
    let split : r / n * n + r % n ≡ r = div-add-mod' r n in
    let small : r % n < n = mod-lt r h in
    let fewer : r / n < m = div_below r n m h below in
    let all : (m - 1 - r / n) + (r / n + 1) ≡ m = omega arith in
    let rows : m * n ≡ (m - 1 - r / n) * n + (r / n + 1) * n = ap (λ (z : ℕ). z * n) (sym all)
    ∙ add-mul (m - 1 - r / n) (r / n + 1) n in
    let is : m * n - 1 - r ≡ (m - 1 - r / n) * n + (n - 1 - r % n) = omega arith in
    let last : n - 1 - r % n < n = omega arith in
    ap (λ (z : ℕ). z % n) is ∙ mod-mul-add (m - 1 - r / n) n (n - 1 - r % n) last

flip-wide : (k m r : ℕ) → m * 2 ^ k ≡ 2 ^ 128 → r < 2 ^ 128
    → (2 ^ 128 - 1 - r) % 2 ^ k ≡ 2 ^ k - 1 - r % 2 ^ k
flip-wide k m r e below =
    let under : r < m * 2 ^ k = omega arith in
    ap (λ (z : ℕ). (z - 1 - r) % 2 ^ k) (sym e) ∙ flip-mod m (2 ^ k) r (pow_pos k) under

-- the lowest k of the 128 bits of an integer
residue-cast : (k m : ℕ) (z : ℤ) → m * 2 ^ k ≡ 2 ^ 128 → FitsSigned w128 z
    → cast_unsigned w128 z % 2 ^ k ≡ residue k z
residue-cast k m (pos n) e f = refl
residue-cast k m (negsuc n) e f =
    let half = f.sfits in
    let below : n < 2 ^ 128 = omega arith in
    let same : 2 ^ 128 - suc n ≡ 2 ^ 128 - 1 - n = omega arith in
    ap (λ (z : ℕ). z % 2 ^ k) same ∙ flip-wide k m n e below

residue-residue : (k m : ℕ) (x : ℤ) → m * 2 ^ k ≡ 2 ^ 128 → residue 128 x % 2 ^ k ≡ residue k x
residue-residue k m (pos n) e = mod-mod_of_dvd (2 ^ k) n
    (subst (λ (z : ℕ). 2 ^ k ∣ z) e (dvd-mul_left (2 ^ k) m))
residue-residue k m (negsuc n) e =
    flip-wide k m (n % 2 ^ 128) e (mod-lt n (pow_pos 128))
    ∙ ap (λ (z : ℕ). 2 ^ k - 1 - z)
    (mod-mod_of_dvd (2 ^ k) n (subst (λ (z : ℕ). 2 ^ k ∣ z) e (dvd-mul_left (2 ^ k) m)))

residue_below : (k : ℕ) (x : ℤ) → residue k x < 2 ^ k
residue_below k (pos n) = mod-lt n (pow_pos k)
residue_below k (negsuc n) = let one = pow_pos k in omega arith

-- to wrap at 128 bits first changes nothing
residue-wrap_signed : (k m : ℕ) (x : ℤ) → m * 2 ^ k ≡ 2 ^ 128
    → residue k (wrap_signed w128 x) ≡ residue k x
residue-wrap_signed k m x e =
    sym (residue-cast k m (wrap_signed w128 x) e (signed-wrap_fits w128 x))
    ∙ ap (λ (z : ℕ). z % 2 ^ k) (of_z-to_z w128 (residue 128 x) (residue_below 128 x))
    ∙ residue-residue k m x e

-- a word has at most 128 bits
blocks : (w : Width) → (m : ℕ) × (m * 2 ^ bit_len w ≡ 2 ^ 128)
blocks w8 = (2 ^ 120, refl)
blocks w16 = (2 ^ 112, refl)
blocks w32 = (2 ^ 96, refl)
blocks w64 = (2 ^ 64, refl)
blocks w128 = (1, refl)

natural : (k : ℕ) (x : ℤ) → wrap_unsigned k x ≡ pos (residue k x)
natural k (pos n) = refl
natural k (negsuc n) = refl

-- to wrap at 128 bits first, and then at the word
pub wrapped_value-wrap_signed : (s : WordType) (x : ℤ)
    → wrapped_value s (wrap_signed w128 x) ≡ wrapped_value s x
unfolding wrapped_value
wrapped_value-wrap_signed (Signed w) x = let b = blocks w in
    ap (cast_signed w) (residue-wrap_signed (bit_len w) b.0 x b.1)
wrapped_value-wrap_signed (Unsigned w) x =
    let b = blocks w in
    natural (bit_len w) (wrap_signed w128 x) ∙ ap pos (residue-wrap_signed (bit_len w) b.0 x b.1)
    ∙ sym (natural (bit_len w) x)

-- the sum, the difference and the product of two 128-bit integers, wrapped there first
pub wrapped_value-add : (s : WordType) (x y a b : ℤ) → FitsSigned w128 x → FitsSigned w128 y → x ≡ a
    → y ≡ b → wrapped_value s (int_wrapping_add w128 x y) ≡ wrapped_value s (a +ℤ b)
wrapped_value-add s x y a b f g p q =
    ap (wrapped_value s) (signed-wrapping_add w128 x y _ refl f g)
    ∙ wrapped_value-wrap_signed s (x +ℤ y)
    ∙ ap (λ (z : ℤ). wrapped_value s (z +ℤ y)) p ∙ ap (λ (z : ℤ). wrapped_value s (a +ℤ z)) q

-- the difference
pub wrapped_value-sub : (s : WordType) (x y a b : ℤ) → FitsSigned w128 x → FitsSigned w128 y → x ≡ a
    → y ≡ b → wrapped_value s (int_wrapping_sub w128 x y) ≡ wrapped_value s (a -ℤ b)
wrapped_value-sub s x y a b f g p q =
    ap (wrapped_value s) (signed-wrapping_sub w128 x y _ refl f g)
    ∙ wrapped_value-wrap_signed s (x -ℤ y)
    ∙ ap (λ (z : ℤ). wrapped_value s (z -ℤ y)) p ∙ ap (λ (z : ℤ). wrapped_value s (a -ℤ z)) q

-- the product
pub wrapped_value-mul : (s : WordType) (x y a b : ℤ) → FitsSigned w128 x → FitsSigned w128 y → x ≡ a
    → y ≡ b → wrapped_value s (int_wrapping_mul w128 x y) ≡ wrapped_value s (a *ℤ b)
wrapped_value-mul s x y a b f g p q =
    ap (wrapped_value s) (signed-wrapping_mul w128 x y _ refl f g)
    ∙ wrapped_value-wrap_signed s (x *ℤ y)
    ∙ ap (λ (z : ℤ). wrapped_value s (z *ℤ y)) p ∙ ap (λ (z : ℤ). wrapped_value s (a *ℤ z)) q

-- ---- for the impls: what their readings and their wraps compute to

-- the lowest bits of a 128-bit integer, as the unsigned and as the signed word of that width
pub low_unsigned : (w : Width) (x : ℤ) → FitsSigned w128 x
    → wrapped_value (Unsigned w) (pos (cast_unsigned w128 x % 2 ^ bit_len w)) ≡ wrapped_value
    (Unsigned w) x
unfolding wrapped_value
low_unsigned w x f =
    let b = blocks w in
    ap (λ (z : ℕ). pos (z % 2 ^ bit_len w)) (residue-cast (bit_len w) b.0 x b.1 f)
    ∙ ap pos (mod-eq_of_lt (residue_below (bit_len w) x)) ∙ sym (natural (bit_len w) x)

-- the same for the signed word
pub low_signed : (w : Width) (x : ℤ) → FitsSigned w128 x
    → wrapped_value (Signed w) (cast_signed w (cast_unsigned w128 x % 2 ^ bit_len w))
    ≡ wrapped_value (Signed w) x
unfolding wrapped_value
low_signed w x f =
    let b = blocks w in
    ap (λ (z : ℕ). wrap_signed w (cast_signed w z)) (residue-cast (bit_len w) b.0 x b.1 f)
    ∙ signed-wrap w (wrap_signed w x) (signed-wrap_fits w x)

-- ---- for the impls, as their goals stand

-- a signed word as an `i128`
pub widen_signed : (w : Width) (x : ℤ) → FitsSigned w x → FitsSigned w128 x
    → cast_signed w128 (cast_unsigned w128 (cast_signed w (cast_unsigned w x))) ≡ wrapped_value
    (Signed w) x
widen_signed w x f g =
    ap (λ (z : ℤ). cast_signed w128 (cast_unsigned w128 z)) (to_z-of_z w x f) ∙ to_z-of_z w128 x g
    ∙ sym (read_signed w x f)

-- an unsigned word as an `i128`
pub widen_unsigned : (w : Width) (n : ℕ) → n < 2 ^ bit_len w → n < 2 ^ 127
    → cast_signed w128 n ≡ wrapped_value (Unsigned w) (pos n)
widen_unsigned w n f g = to_z_pos w128 n g ∙ sym (read_unsigned w n f)

-- the lowest bits of an `i128`, as the code takes them
pub narrow_unsigned : (w : Width) (x : ℤ) (m : ℕ) → FitsSigned w128 x
    → m ≡ cast_unsigned w128 (cast_signed w128 (cast_unsigned w128 x))
    → wrapped_value (Unsigned w) (pos (bit_and m (2 ^ bit_len w - 1))) ≡ wrapped_value
    (Unsigned w) x
narrow_unsigned w x m f e =
    ap (λ (z : ℕ). wrapped_value (Unsigned w) (pos z))
    (and_mask m (bit_len w) ∙ ap (λ (z : ℕ). z % 2 ^ bit_len w)
    (e ∙ ap (cast_unsigned w128) (to_z-of_z w128 x f)))
    ∙ low_unsigned w x f

-- and as a signed word
pub narrow_signed : (w : Width) (x r : ℤ) (m : ℕ) → FitsSigned w128 x → FitsSigned w r
    → m ≡ cast_unsigned w128 (cast_signed w128 (cast_unsigned w128 x))
    → r ≡ cast_signed w (bit_and m (2 ^ bit_len w - 1))
    → wrapped_value (Signed w) (cast_signed w (cast_unsigned w r)) ≡ wrapped_value (Signed w) x
narrow_signed w x r m f g e h =
    ap (wrapped_value (Signed w)) (to_z-of_z w r g ∙ h)
    ∙ ap (λ (z : ℕ). wrapped_value (Signed w) (cast_signed w z))
    (and_mask m (bit_len w) ∙ ap (λ (z : ℕ). z % 2 ^ bit_len w)
    (e ∙ ap (cast_unsigned w128) (to_z-of_z w128 x f)))
    ∙ low_signed w x f

-- an integer that does not wrap to itself is not one of the word
not_held : (t : WordType) (x y z : ℤ) → FitsSigned w128 x → y ≡ z
    → z ≡ wrapped_value t (cast_signed w128 (cast_unsigned w128 x))
    → (cast_unsigned w128 y ≡ cast_unsigned w128 x → ⊥) → IsHeld t x → ⊥
not_held t x y z f p q ne held =
    ne (ap (cast_unsigned w128)
    (p ∙ q ∙ ap (wrapped_value t) (to_z-of_z w128 x f) ∙ wrapped-held t x held))

-- an integer of the word fits it
pub fitting_value-held : (t : WordType) (x : ℤ) → is_within (word_values t) x ≡ true
    → fitting_value (word_values t) x ≡ Some x
fitting_value-held t x within = ap (λ b. cond b (Some x) None) within

-- and no other does
pub fitting_value-not_held : (t : WordType) (x : ℤ) → (is_within (word_values t) x ≡ true → ⊥)
    → fitting_value (word_values t) x ≡ None
fitting_value-not_held t x not = elim (cases_Bool (is_within (word_values t) x)) [
  | inl holds ↦ absurd (not holds)
  | inr fails ↦ ap (λ b. cond b (Some x) None) fails
]

-- the word that a value wraps to reads as it
pub fit_same : (t : WordType) (x y r : ℤ) → FitsSigned w128 x → FitsSigned w128 y
    → cast_unsigned w128 y ≡ cast_unsigned w128 x → y ≡ r
    → is_within (word_values t) y ≡ true → Some r ≡ fitting_value (word_values t) x
fit_same t x y r f g e p within =
    let same : y ≡ x = sym (to_z-of_z w128 y g) ∙ ap (cast_signed w128) e ∙ to_z-of_z w128 x f in
    ap Some (sym p ∙ same)
    ∙ sym (fitting_value-held t x (ap (is_within (word_values t)) (sym same) ∙ within))

-- and no word does where that one does not
pub fit_none : (t : WordType) (x y z : ℤ) → FitsSigned w128 x → y ≡ z
    → z ≡ wrapped_value t (cast_signed w128 (cast_unsigned w128 x))
    → (cast_unsigned w128 y ≡ cast_unsigned w128 x → ⊥) → None ≡ fitting_value (word_values t) x
fit_none t x y z f p q ne =
    sym (fitting_value-not_held t x
    (λ within. not_held t x y z f p q ne (held_from_within t x within)))

-- an `i128` as itself
pub narrow_self : (x : ℤ) → FitsSigned w128 x
    → cast_signed w128 (cast_unsigned w128 x) ≡ wrapped_value (Signed w128) x
narrow_self x f = to_z-of_z w128 x f ∙ sym (read_signed w128 x f)

-- what the impls of the words ask
pub ruleset word_impls = (widen_signed, widen_unsigned, narrow_signed, narrow_unsigned, narrow_self)
