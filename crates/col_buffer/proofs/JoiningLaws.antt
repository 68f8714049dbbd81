-- Words of bits that are made of others, one behind another.
use Rattle.std.specs.Prelude.{◌≡◌, ◌+◌, ◌*◌, ◌/◌, ◌%◌, ◌≤◌, ◌<◌, ◌==◌, ◌&&◌, ℕ, zero, suc, min, Bool, Some, List, [], ◌∷◌, ◌++◌, length, bit_and, slice_index}
use Rattle.std.specs.Int.{bit_at}
use Rattle.std.proofs.Common.{ap, ◌∙◌, arith, refl, inl, inr, get_or}
use Rattle.std.proofs.lemmas.Bool.{cases_lt}
use Rattle.std.proofs.lemmas.List.{get_or_append_left, get_or_push}
use Rattle.std.proofs.lemmas.Nat.Bits.{bit_at_and, bit_at-lt}
use Rattle.col_buffer.specs.Validity.{valid_at}

-- a loop's step: 64 more bits
pub word-step : (bits : List ℕ) (len at word : ℕ) (target : ℕ → Bool) → length bits ≡ at
    → ((k : ℕ) → k < len → k < 64 * at → valid_at (Some bits) k ≡ target k)
    → ((j : ℕ) → j < 64 → at * 64 + j < len → (bit_at word j == 1) ≡ target (at * 64 + j))
    → (k : ℕ) → k < len → k < 64 * (at + 1) → valid_at (Some (bits ++ word ∷ [])) k ≡ target k
word-step bits len at word target count same here k less below = elim (cases_lt k (64 * at)) [
  | inl old ↦
      let inside : k / 64 < length bits = omega arith in
      ap (λ (z : ℕ). bit_at z (k % 64) == 1) (get_or_append_left bits (word ∷ []) 0 (k / 64) inside) ∙ same k less old
  | inr new ↦
      let q : k / 64 ≡ length bits = omega arith in
      let is : at * 64 + k % 64 ≡ k = omega arith in
      ap (λ (z : ℕ). bit_at (get_or (bits ++ word ∷ []) z 0) (k % 64) == 1) q
      ∙ ap (λ (z : ℕ). bit_at z (k % 64) == 1) (get_or_push bits word 0 (length bits) refl)
      ∙ here (k % 64) (omega arith) (omega arith)
      ∙ ap target is
]

-- 64 bits that are read from a place on
pub read-step : (words : List ℕ) (offset len at word : ℕ) → offset + len ≤ 64 * length words
    → ((j : ℕ) → j < 64 → offset + at * 64 + j < 64 * length words
    → bit_at word j ≡ bit_at (slice_index words ((offset + at * 64 + j) / 64)) ((offset + at * 64 + j) % 64))
    → (j : ℕ) → j < 64 → at * 64 + j < len → (bit_at word j == 1) ≡ valid_at (Some words) (offset + (at * 64 + j))
read-step words offset len at word room here j small less =
    let is : offset + at * 64 + j ≡ offset + (at * 64 + j) = omega arith in
    ap (λ (z : ℕ). z == 1) (here j small (omega arith))
    ∙ ap (λ (z : ℕ). valid_at (Some words) z) is

-- a bit of two words
pub and_one : (a b j : ℕ) → (bit_at (bit_and a b) j == 1) ≡ (bit_at a j == 1) && (bit_at b j == 1)
and_one a b j = ap (λ (z : ℕ). z == 1) (bit_at_and a b j) ∙ least (bit_at a j) (bit_at b j) (bit_at-lt a j) (bit_at-lt b j)
  where
    least : (x y : ℕ) → x < 2 → y < 2 → (min x y == 1) ≡ (x == 1) && (y == 1)
    least zero zero h k = refl
    least zero (suc y) h k = let is : min 0 (suc y) ≡ 0 = omega arith in ap (λ (z : ℕ). z == 1) is
    least (suc zero) zero h k = let is : min 1 0 ≡ 0 = omega arith in ap (λ (z : ℕ). z == 1) is
    least (suc zero) (suc zero) h k = refl
    least (suc zero) (suc (suc y)) h k = absurd (omega arith)
    least (suc (suc x)) y h k = absurd (omega arith)
