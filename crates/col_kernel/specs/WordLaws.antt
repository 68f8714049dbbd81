-- The laws of the trait `Word`, proved for the signed and the unsigned word of each width.
use Rattle.std.specs.Prelude.{◌≡◌, ◌+◌, ◌-◌, ◌*◌, ◌/◌, ◌%◌, ◌^◌, ◌<◌, ◌≤◌, ◌+ℤ◌, ◌-ℤ◌, ◌*ℤ◌, ◌&&◌}
use Rattle.std.specs.Prelude.{ℕ, ℤ, zero, suc, pos, negsuc, neg_ℤ, true, cond, FitsSigned}
use Rattle.std.specs.Prelude.{unsigned_abs}
use Rattle.std.specs.Int.{Width, w8, w16, w32, w64, w128, FitsUnsignedBits, cast_signed}
use Rattle.std.specs.Ordering.{int_cmp, nat_cmp}
use Rattle.std.proofs.Common.{lt_of_lt_of_le, refl, ap, sym, ◌∙◌, ◌⊎◌, arith, inl, inr, mod-lt}
use Rattle.std.proofs.Math.Bool.{and-true}
use Rattle.std.proofs.Math.Dec.{leb, leb-zero}
use Rattle.std.proofs.Math.IntN.{pred_ℤ, pred_ℤ-*ℤ}
use Rattle.std.proofs.Math.Nat.{pow-le-pow_right}
use Rattle.std.proofs.lemmas.Bool.{le-leb, leb-true, cases_lt, le-ltb}
use Rattle.std.proofs.lemmas.Nat.{pow_pos, div-add-mod'}
use Rattle.std.proofs.lemmas.Int.{ints, to_z_pos}
use Rattle.std.specs.Int.Signed.{mag}
use mir.Val.{bits, hbits}
use Rattle.num_traits.specs.Laws.{bit_len, wrap_unsigned}
use Rattle.num_traits.specs.Ints.{signed-wrap, signed-wrap_fits, unsigned-wrap, unsigned-wrap_fits}
use Rattle.col_kernel.specs.Congruence.{IsCongruent}
use Rattle.col_model.specs.Arithmetic.{WordType, Signed, Unsigned, Interval, is_within, word_bits}
use Rattle.col_model.specs.Arithmetic.{word_values, wrapped_value}

-- ---- the range of a word, in std's words

-- the word has the integer
abbrev pub IsHeld : WordType → ℤ → Type 0
IsHeld (Signed w) x = FitsSigned w x
IsHeld (Unsigned w) x = FitsUnsignedBits (bit_len w) x

-- the integers from -(m + 1) to m
abbrev balanced : ℕ → Interval
balanced m = record { low = negsuc m; high = pos m }

-- a signed word's integers are such
signed_values : (w : Width) → word_values (Signed w) ≡ balanced (2 ^ hbits w - 1)
signed_values w8 = refl
signed_values w16 = refl
signed_values w32 = refl
signed_values w64 = refl
signed_values w128 = refl

-- the tests of the ranges, by the magnitude or by the number itself
is_within-balanced : (m : ℕ) (x : ℤ) → is_within (balanced m) x ≡ leb (mag x) m
is_within-balanced m (pos n) = refl
is_within-balanced m (negsuc n) = and-true (leb n m)

-- the same at a signed word
is_within-signed : (w : Width) (x : ℤ) → is_within (word_values (Signed w)) x ≡ leb (mag x)
    (2 ^ hbits w - 1)
is_within-signed w x = ap (λ (range : Interval). is_within range x) (signed_values w)
    ∙ is_within-balanced (2 ^ hbits w - 1) x

-- the same at an unsigned word
is_within-unsigned : (w : Width) (n : ℕ)
    → is_within (word_values (Unsigned w)) (pos n) ≡ leb n (2 ^ bit_len w - 1)
is_within-unsigned w n = ap (λ b. b && leb n (2 ^ bit_len w - 1)) (leb-zero n)

-- the test of the range, from std's fact
pub within_from_held : (t : WordType) (x : ℤ) → IsHeld t x → is_within (word_values t) x ≡ true
within_from_held (Signed w) x held =
    let some = pow_pos (hbits w) in
    is_within-signed w x ∙ le-leb (mag x) (2 ^ hbits w - 1) (omega (arith, held.sfits))
within_from_held (Unsigned w) (pos n) held =
    let some = pow_pos (bit_len w) in
    is_within-unsigned w n ∙ le-leb n (2 ^ bit_len w - 1) (omega (arith, held))
within_from_held (Unsigned w) (negsuc n) held = absurd held

-- and back
pub held_from_within : (t : WordType) (x : ℤ) → is_within (word_values t) x ≡ true → IsHeld t x
held_from_within (Signed w) x within =
    let some = pow_pos (hbits w) in
    let below = leb-true (mag x) (2 ^ hbits w - 1) (sym (is_within-signed w x) ∙ within) in
    record { sfits = omega arith }
held_from_within (Unsigned w) (pos n) within =
    let some = pow_pos (bit_len w) in
    let below = leb-true n (2 ^ bit_len w - 1) (sym (is_within-unsigned w n) ∙ within) in
    omega arith
held_from_within (Unsigned w) (negsuc n) within = absurd (cc)

-- ---- wrapping

-- an integer of the word is its own
pub wrapped-held : (t : WordType) (x : ℤ) → IsHeld t x → wrapped_value t x ≡ x
unfolding wrapped_value
wrapped-held (Signed w) x held = signed-wrap w x held
wrapped-held (Unsigned w) x held = unsigned-wrap (bit_len w) x held

-- what has wrapped is in the word
pub held-wrapped : (t : WordType) (x : ℤ) → IsHeld t (wrapped_value t x)
unfolding wrapped_value
held-wrapped (Signed w) x = signed-wrap_fits w x
held-wrapped (Unsigned w) x = unsigned-wrap_fits (bit_len w) x

-- a multiple of a negative number
neg-mul : (a m : ℕ) → neg_ℤ (pos a) *ℤ pos m ≡ neg_ℤ (pos (a * m))
neg-mul zero m = omega (arith, ints)
neg-mul (suc a) m = refl

-- an integer and what it wraps to without a sign
congruent_unsigned : (k : ℕ) (x : ℤ) → IsCongruent (2 ^ k) x (wrap_unsigned k x)
congruent_unsigned k (pos n) =
    let split : n / 2 ^ k * 2 ^ k + n % 2 ^ k ≡ n = div-add-mod' n (2 ^ k) in (
      neg_ℤ (pos (n / 2 ^ k)),
      taken (n / 2 ^ k * 2 ^ k) (n % 2 ^ k) n split
          ∙ ap (λ (z : ℤ). pos n +ℤ z) (sym (neg-mul (n / 2 ^ k) (2 ^ k))),
    )
  where
    taken : (p r n : ℕ) → p + r ≡ n → pos r ≡ pos n +ℤ neg_ℤ (pos p)
    taken p r n e = omega (arith, ints)
congruent_unsigned k (negsuc n) =
    let split : n / 2 ^ k * 2 ^ k + n % 2 ^ k ≡ n = div-add-mod' n (2 ^ k) in
    let below : n % 2 ^ k < 2 ^ k = mod-lt n (pow_pos k) in (
      pos (suc (n / 2 ^ k)),
      added (n / 2 ^ k * 2 ^ k) (n % 2 ^ k) n (2 ^ k) (suc (n / 2 ^ k) * 2 ^ k) split below
          (omega arith),
    )
  where
    added : (p r n m q : ℕ) → p + r ≡ n → r < m → q ≡ p + m → pos (m - 1 - r) ≡ negsuc n +ℤ pos q
    added p r n m q e below f = omega (arith, ints)

-- the signed number of some bits is the unsigned one, or a modulus less
cast_signed-cases : (w : Width) (r : ℕ) → r < 2 ^ bit_len w
    → (cast_signed w r ≡ pos r) ⊎ (cast_signed w r ≡ pos r -ℤ pos (2 ^ bit_len w))
cast_signed-cases w r below = elim (cases_lt r (2 ^ hbits w)) [
  | inl low ↦ inl (to_z_pos w r low)
  | inr high ↦ inr (upper w r high ∙ less r (2 ^ bit_len w) below)
]
  where
    less : (r m : ℕ) → r < m → negsuc (m - suc r) ≡ pos r -ℤ pos m
    less r m below = omega (arith, ints)

    width : (w : Width) → bits w ≡ bit_len w
    width w8 = refl
    width w16 = refl
    width w32 = refl
    width w64 = refl
    width w128 = refl

    upper : (w : Width) (r : ℕ) → 2 ^ hbits w ≤ r → cast_signed w r ≡ negsuc (2 ^ bit_len w - suc r)
    upper w r high =
        ap (λ b. cond b (pos r) (negsuc (2 ^ bits w - suc r))) (le-ltb r (2 ^ hbits w) high)
        ∙ ap (λ (k : ℕ). negsuc (2 ^ k - suc r)) (width w)

-- a congruence stays one where a modulus is taken off
congruent_cast : (m : ℕ) (x y z : ℤ) → IsCongruent m x y → (z ≡ y) ⊎ (z ≡ y -ℤ pos m)
    → IsCongruent m x z
congruent_cast m x y z given (inl e) = (given.0, e ∙ given.1)
congruent_cast m x y z given (inr e) = (
  pred_ℤ given.0,
  e ∙ ap (λ (v : ℤ). v -ℤ pos m) given.1 ∙ regroup (given.0 *ℤ pos m) (pos m)
      ∙ ap (λ (v : ℤ). x +ℤ v) (sym (pred_ℤ-*ℤ given.0 (pos m))),
)
  where
    regroup : (p q : ℤ) → (x +ℤ p) -ℤ q ≡ x +ℤ (p -ℤ q)
    regroup p q = omega (arith, ints)

-- an integer and what it wraps to differ by a multiple of 2 to the width
pub wrapped_is_congruent : (t : WordType) (x : ℤ)
    → IsCongruent (2 ^ word_bits t) x (wrapped_value t x)
unfolding wrapped_value
wrapped_is_congruent (Signed w) (pos n) =
    let below : n % 2 ^ bit_len w < 2 ^ bit_len w = mod-lt n (pow_pos (bit_len w)) in
    congruent_cast (2 ^ bit_len w) (pos n) _ _ (congruent_unsigned (bit_len w) (pos n))
    (cast_signed-cases w _ below)
wrapped_is_congruent (Signed w) (negsuc n) =
    let some = pow_pos (bit_len w) in
    let below : 2 ^ bit_len w - 1 - n % 2 ^ bit_len w < 2 ^ bit_len w = omega arith in
    congruent_cast (2 ^ bit_len w) (negsuc n) _ _ (congruent_unsigned (bit_len w) (negsuc n))
    (cast_signed-cases w _ below)
wrapped_is_congruent (Unsigned w) x = congruent_unsigned (bit_len w) x

-- ---- which words an `i128` holds

-- a signed word up to 64 bits is inside that of 128
narrow_signed_fits : (w : Width) → hbits w ≤ 127 → (x : ℤ) → FitsSigned w x → FitsSigned w128 x
narrow_signed_fits w h x f =
    record { sfits = lt_of_lt_of_le f.sfits (pow-le-pow_right {n = 2} (omega arith) h) }

-- and so is an unsigned one
narrow_unsigned_fits : (w : Width) → bit_len w ≤ 127 → (x : ℤ) → FitsUnsignedBits (bit_len w) x
    → FitsSigned w128 x
narrow_unsigned_fits w h (pos n) f = record
    { sfits = lt_of_lt_of_le f (pow-le-pow_right {n = 2} (omega arith) h) }
narrow_unsigned_fits w h (negsuc n) f = absurd f

-- each integer of a signed word is one of an `i128`
pub signed_in_i128 : (w : Width) → hbits w ≤ 127 → (x : ℤ)
    → is_within (word_values (Signed w)) x ≡ true → is_within (word_values (Signed w128)) x ≡ true
signed_in_i128 w h x within =
    within_from_held (Signed w128) x
    (narrow_signed_fits w h x (held_from_within (Signed w) x within))

-- and so is each of an unsigned word of at most 64 bits
pub unsigned_in_i128 : (w : Width) → bit_len w ≤ 127 → (x : ℤ)
    → is_within (word_values (Unsigned w)) x ≡ true → is_within (word_values (Signed w128)) x ≡ true
unsigned_in_i128 w h x within =
    within_from_held (Signed w128) x
    (narrow_unsigned_fits w h x (held_from_within (Unsigned w) x within))

-- ---- words by their readings

-- a reading lies in the range of the word
pub reading_in_range : (t : WordType) (x : ℤ) → is_within (word_values t) (wrapped_value t x) ≡ true
reading_in_range t x = within_from_held t (wrapped_value t x) (held-wrapped t x)

-- a reading wraps to itself
pub reading_wraps : (t : WordType) (x : ℤ) → wrapped_value t (wrapped_value t x) ≡ wrapped_value t x
reading_wraps t x = wrapped-held t (wrapped_value t x) (held-wrapped t x)

-- a word reads as its own number
pub read_signed : (w : Width) (x : ℤ) → FitsSigned w x → wrapped_value (Signed w) x ≡ x
read_signed w x f = wrapped-held (Signed w) x f

-- and so does an unsigned one
pub read_unsigned : (w : Width) (n : ℕ) → n < 2 ^ bit_len w
    → wrapped_value (Unsigned w) (pos n) ≡ pos n
read_unsigned w n f = wrapped-held (Unsigned w) (pos n) f

-- words of one reading are one word
pub signed_equal : (w : Width) (x y : ℤ) → FitsSigned w x → FitsSigned w y
    → wrapped_value (Signed w) x ≡ wrapped_value (Signed w) y → x ≡ y
signed_equal w x y f g e = sym (read_signed w x f) ∙ e ∙ read_signed w y g

-- the same for unsigned words
pub unsigned_equal : (w : Width) (m n : ℕ) → m < 2 ^ bit_len w → n < 2 ^ bit_len w
    → wrapped_value (Unsigned w) (pos m) ≡ wrapped_value (Unsigned w) (pos n) → m ≡ n
unsigned_equal w m n f g e = ap unsigned_abs (sym (read_unsigned w m f) ∙ e ∙ read_unsigned w n g)

-- words are ordered as their readings are
pub signed_order : (w : Width) (x y : ℤ) → FitsSigned w x → FitsSigned w y
    → int_cmp x y ≡ int_cmp (wrapped_value (Signed w) x) (wrapped_value (Signed w) y)
signed_order w x y f g =
    ap (λ (z : ℤ). int_cmp z y) (sym (read_signed w x f))
    ∙ ap (λ (z : ℤ). int_cmp (wrapped_value (Signed w) x) z) (sym (read_signed w y g))

-- the same for unsigned words
pub unsigned_order : (w : Width) (m n : ℕ) → m < 2 ^ bit_len w → n < 2 ^ bit_len w
    → nat_cmp m n ≡ int_cmp (wrapped_value (Unsigned w) (pos m))
    (wrapped_value (Unsigned w) (pos n))
unsigned_order w m n f g =
    let same : nat_cmp m n ≡ int_cmp (pos m) (pos n) = grind (arith, ints) in
    same ∙ ap (λ (z : ℤ). int_cmp z (pos n)) (sym (read_unsigned w m f))
    ∙ ap (λ (z : ℤ). int_cmp (wrapped_value (Unsigned w) (pos m)) z) (sym (read_unsigned w n g))
