-- What is left of an integer in a word, as the code computes it.
use Rattle.std.specs.Prelude.{◌≡◌, ◌^◌, ◌*ℤ◌, ℕ, ℤ, pos, FitsSigned, unsigned_abs}
use Rattle.std.specs.Int.{Width, w32, w64, cast_signed, int_rem_euclid, int_wrapping_mul}
use Rattle.std.proofs.Common.{refl, ap, ◌∙◌}
use Rattle.num_traits.specs.Ints.{signed-wrapping_mul, signed-wrap_fits}
use Rattle.col_model.specs.Arithmetic.{Signed, wrapped_value}

-- a product by a natural number
pub wrapped_product : (x y : ℤ) (factor : ℕ) → FitsSigned w64 x → FitsSigned w64 y → y ≡ pos factor
    → int_wrapping_mul w64 x y ≡ wrapped_value (Signed w64) (x *ℤ pos factor)
unfolding wrapped_value
wrapped_product x y factor f g e =
    signed-wrapping_mul w64 x y _ refl f g
    ∙ ap (λ (z : ℤ). wrapped_value (Signed w64) (x *ℤ z)) e

-- what a division by 2 to the word's width leaves, taken for a word
pub wrapped_rest : (x low : ℤ) → low ≡ int_rem_euclid x (pos (2 ^ 32))
    → cast_signed w32 (unsigned_abs low) ≡ wrapped_value (Signed w32) x
unfolding wrapped_value
wrapped_rest x low e = ap (λ (z : ℤ). cast_signed w32 (unsigned_abs z)) e

-- what is wrapped to a signed word fits it
pub wrapped-fits : (w : Width) (x : ℤ) → FitsSigned w (wrapped_value (Signed w) x)
unfolding wrapped_value
wrapped-fits w x = signed-wrap_fits w x
