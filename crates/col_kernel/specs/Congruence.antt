-- Congruence of integers.
use Rattle.std.specs.Prelude.{◌≡◌, ◌+ℤ◌, ◌*ℤ◌, ℕ, ℤ, pos}

-- the two differ by a multiple of the modulus
abbrev pub IsCongruent : ℕ → ℤ → ℤ → Type 0
IsCongruent modulus x y = (k : ℤ) × (y ≡ x +ℤ (k *ℤ pos modulus))
