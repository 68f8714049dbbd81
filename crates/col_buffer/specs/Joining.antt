-- Words of validity that are made of others.
use Rattle.std.specs.Prelude.{◌≡◌, ◌+◌, ◌*◌, ◌≤◌, ◌<◌, ◌&&◌, ℕ, List, Option, Some, length}
use Rattle.col_buffer.specs.Validity.{Reaches, valid_at}

-- so many bits are those of the words from a place on
pub record HasBitsFrom (words : List ℕ) (offset len : ℕ) (bits : List ℕ) : Type 0 where
  pub reach : len ≤ 64 * length bits
  pub same : (k : ℕ) → k < len → valid_at (Some bits) k ≡ valid_at (Some words) (offset + k)

-- so many places are valid where they are valid on both sides, each from a place on
pub record HasBoth (left : Option (List ℕ)) (left_offset : ℕ) (right : Option (List ℕ))
    (right_offset len : ℕ) (bits : Option (List ℕ)) : Type 0 where
  pub reach : Reaches bits len
  pub same : (k : ℕ) → k < len →
      valid_at bits k ≡ valid_at left (left_offset + k) && valid_at right (right_offset + k)
