-- What a word keeps of an integer.
use Rattle.std.specs.Prelude.{◌≡◌, ◌-◌, ◌/◌, ◌^◌, ◌<◌, ◌+ℤ◌, ◌*ℤ◌, ◌≤ℤ◌, ℕ, ℤ, suc, pos, negsuc, neg_ℤ, true, unsigned_abs}
use Rattle.std.specs.Int.{Width, w8, w16, w32, w64, w128, cast_signed}
use Rattle.std.proofs.Common.{refl, ap, sym, subst, ◌∙◌, ◌⊎◌, arith, inl, inr, mod-lt}
use Rattle.std.proofs.lemmas.Bool.{cases_lt}
use Rattle.std.proofs.lemmas.Int.{ints}
use Rattle.std.proofs.Math.IntN.{suc_ℤ, suc_ℤ-*ℤ}
use Rattle.std.proofs.lemmas.Nat.{div-add-mod', pow_pos}
use Rattle.num_traits.specs.Laws.{bit_len, wrap_signed, wrap_unsigned}
use Rattle.num_traits.specs.Ints.{signed-wrap, signed-wrap_fits, signed-bounds, unsigned-wrap, unsigned-wrap_fits, unsigned-bounds}
use mir.Val.{bits, hbits}
use mir.ValLaws.{to_z_pos, to_z-neg}
use Rattle.col_model.specs.Arithmetic.{is_within, WordType, Signed, Unsigned, word_values, wrapped_value}
use Rattle.col_model.specs.IntervalLaws.{IsKeptOf}
use Rattle.col_model.proofs.WithinLemmas.{is_within-true, within_from}

-- the two ends of a signed word
least : (w : Width) → neg_ℤ (pos (2 ^ (bit_len w - 1))) ≡ negsuc (2 ^ hbits w - 1)
least w8 = refl
least w16 = refl
least w32 = refl
least w64 = refl
least w128 = refl

half : (w : Width) → bit_len w - 1 ≡ hbits w
half w8 = refl
half w16 = refl
half w32 = refl
half w64 = refl
half w128 = refl

-- what lies in a word's values is kept
pub wrapped_value-within : (word : WordType) (x : ℤ) → is_within (word_values word) x ≡ true → wrapped_value word x ≡ x
unfolding wrapped_value
wrapped_value-within (Signed w) x h =
    let u = within_from (word_values (Signed w)) x h in
    let low : negsuc (2 ^ hbits w - 1) ≤ℤ x = subst (λ (z : ℤ). z ≤ℤ x) (least w) u.low in
    let high : x ≤ℤ pos (2 ^ hbits w - 1) = subst (λ (k : ℕ). x ≤ℤ pos (2 ^ k - 1)) (half w) u.high in
    signed-wrap w x ((signed-bounds w x).1 (low, high))
wrapped_value-within (Unsigned w) x h =
    let u = within_from (word_values (Unsigned w)) x h in
    unsigned-wrap (bit_len w) x ((unsigned-bounds (bit_len w) x).1 (u.low, u.high))

-- what is kept lies in the word's values
pub kept_in_word : (word : WordType) (x : ℤ) → is_within (word_values word) (wrapped_value word x) ≡ true
unfolding wrapped_value
kept_in_word (Signed w) x =
    let kept = wrap_signed w x in
    let ends = (signed-bounds w kept).0 (signed-wrap_fits w x) in
    is_within-true (word_values (Signed w)) kept (record {
      low = subst (λ (z : ℤ). z ≤ℤ kept) (sym (least w)) ends.0;
      high = subst (λ (k : ℕ). kept ≤ℤ pos (2 ^ k - 1)) (sym (half w)) ends.1;
    })
kept_in_word (Unsigned w) x =
    let kept = wrap_unsigned (bit_len w) x in
    let ends = (unsigned-bounds (bit_len w) kept).0 (unsigned-wrap_fits (bit_len w) x) in
    is_within-true (word_values (Unsigned w)) kept (record { low = ends.0; high = ends.1 })

-- how many times 2 to the width stands between x and its rest
blocks_of : ℕ → ℤ → ℤ
blocks_of k (pos n) = pos (n / 2 ^ k)
blocks_of k (negsuc n) = negsuc (n / 2 ^ k)

rest_congruent : (k : ℕ) (x : ℤ) → wrap_unsigned k x +ℤ (blocks_of k x *ℤ pos (2 ^ k)) ≡ x
unfolding blocks_of
rest_congruent k (pos n) = omega (arith, ints, div-add-mod' n (2 ^ k))
rest_congruent k (negsuc n) =
    omega (arith, ints, div-add-mod' n (2 ^ k), mod-lt n (pow_pos k), pow_pos k)

-- bits read as a signed number, as they are or with 2 to the width taken off
abbrev IsRead : Width → ℕ → Type 0
IsRead w n = (cast_signed w n ≡ pos n) ⊎ (cast_signed w n +ℤ pos (2 ^ bit_len w) ≡ pos n)

read_low : (w : Width) (n h : ℕ) → hbits w ≡ h → n < 2 ^ h → cast_signed w n ≡ pos n
read_low w n h e low = to_z_pos w n (subst (λ (k : ℕ). n < 2 ^ k) (sym e) low)

read_high : (w : Width) (n b : ℕ) → bits w ≡ b → n < 2 ^ b → 2 ^ b - 1 - n < 2 ^ hbits w
    → cast_signed w n +ℤ pos (2 ^ b) ≡ pos n
read_high w n b e below high =
    let k = 2 ^ b - 1 - n in
    let is : n ≡ 2 ^ b - suc k = omega arith in
    let width : 2 ^ b - suc k ≡ 2 ^ bits w - suc k = ap (λ (c : ℕ). 2 ^ c - suc k) (sym e) in
    let read : cast_signed w n ≡ negsuc k = ap (cast_signed w) (is ∙ width) ∙ to_z-neg w k high in
    rw read (omega (arith, ints))

signed_read : (w : Width) (n : ℕ) → n < 2 ^ bit_len w → IsRead w n
signed_read w8 n h = elim (cases_lt n (2 ^ 7)) [ inl low ↦ inl (read_low w8 n 7 refl low) | inr high ↦ inr (read_high w8 n 8 refl h (omega arith)) ]
signed_read w16 n h = elim (cases_lt n (2 ^ 15)) [ inl low ↦ inl (read_low w16 n 15 refl low) | inr high ↦ inr (read_high w16 n 16 refl h (omega arith)) ]
signed_read w32 n h = elim (cases_lt n (2 ^ 31)) [ inl low ↦ inl (read_low w32 n 31 refl low) | inr high ↦ inr (read_high w32 n 32 refl h (omega arith)) ]
signed_read w64 n h = elim (cases_lt n (2 ^ 63)) [ inl low ↦ inl (read_low w64 n 63 refl low) | inr high ↦ inr (read_high w64 n 64 refl h (omega arith)) ]
signed_read w128 n h = elim (cases_lt n (2 ^ 127)) [ inl low ↦ inl (read_low w128 n 127 refl low) | inr high ↦ inr (read_high w128 n 128 refl h (omega arith)) ]

rest_natural : (k : ℕ) (x : ℤ) → pos (unsigned_abs (wrap_unsigned k x)) ≡ wrap_unsigned k x
rest_natural k (pos n) = refl
rest_natural k (negsuc n) = refl

rest_below : (k : ℕ) (x : ℤ) → unsigned_abs (wrap_unsigned k x) < 2 ^ k
rest_below k (pos n) = mod-lt n (pow_pos k)
rest_below k (negsuc n) = let one = pow_pos k in omega arith

-- one time more
more_congruent : (kept rest x blocks : ℤ) (d : ℕ) → kept +ℤ pos d ≡ rest → rest +ℤ (blocks *ℤ pos d) ≡ x
    → kept +ℤ (suc_ℤ blocks *ℤ pos d) ≡ x
more_congruent kept rest x blocks d e f = rw (suc_ℤ-*ℤ blocks (pos d)) (omega (arith, ints))

signed_kept : (w : Width) (x : ℤ) → IsRead w (unsigned_abs (wrap_unsigned (bit_len w) x))
    → (blocks : ℤ) × (wrap_signed w x +ℤ (blocks *ℤ pos (2 ^ bit_len w)) ≡ x)
signed_kept w x (inl e) =
    let k = bit_len w in (
      blocks_of k x,
      ap (λ z. z +ℤ (blocks_of k x *ℤ pos (2 ^ k))) (e ∙ rest_natural k x) ∙ rest_congruent k x,
    )
signed_kept w x (inr e) =
    let k = bit_len w in (
      suc_ℤ (blocks_of k x),
      more_congruent (wrap_signed w x) (wrap_unsigned k x) x (blocks_of k x) (2 ^ k)
          (e ∙ rest_natural k x) (rest_congruent k x),
    )

pub word_keeps : (word : WordType) (x : ℤ) → IsKeptOf word x (wrapped_value word x)
unfolding wrapped_value
word_keeps (Signed w) x =
    let k = bit_len w in
    let blocks = signed_kept w x (signed_read w (unsigned_abs (wrap_unsigned k x)) (rest_below k x)) in
    record { in_word = kept_in_word (Signed w) x; multiple = blocks.0; congruent = blocks.1 }
word_keeps (Unsigned w) x = record {
  in_word = kept_in_word (Unsigned w) x;
  multiple = blocks_of (bit_len w) x;
  congruent = rest_congruent (bit_len w) x;
}
