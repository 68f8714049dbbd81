-- What a search for the first byte of a kind tells of its place.
use Rattle.std.proofs.Common.{◌≡◌, ◌<◌, ℕ, Bool, true, false, not, cond, List, length, refl, arith, nat_lt, Some, None}
use Rattle.std.specs.List.{position, position_or_len}
use Rattle.std.proofs.lemmas.Bool.{ltb-true, ltb-false}
use Rattle.std.proofs.lemmas.List.Sums.{prefix_len-le-length}

found_by : (p : ℕ → Bool) (bytes : List ℕ) (at : ℕ) (found : Bool) → nat_lt (position_or_len p bytes) (length bytes) ≡ found
    → cond found (Some (position_or_len p bytes)) None ≡ Some at → (position_or_len p bytes ≡ at) × (at < length bytes)
found_by p bytes at true e h = let same : position_or_len p bytes ≡ at = cc in (same, omega (arith, ltb-true _ _ e))
found_by p bytes at false e h = cc

-- a search that finds a place finds the first one, and it is inside the list
pub position-found : (p : ℕ → Bool) (bytes : List ℕ) (at : ℕ) → position p bytes ≡ Some at
    → (position_or_len p bytes ≡ at) × (at < length bytes)
position-found p bytes at h = found_by p bytes at _ refl h

absent_by : (p : ℕ → Bool) (bytes : List ℕ) (found : Bool) → nat_lt (position_or_len p bytes) (length bytes) ≡ found
    → cond found (Some (position_or_len p bytes)) None ≡ None → position_or_len p bytes ≡ length bytes
absent_by p bytes true e h = cc
absent_by p bytes false e h = omega (arith, ltb-false _ _ e, prefix_len-le-length (λ x. not (p x)) bytes)

-- a search that finds no place has gone to the end
pub position-absent : (p : ℕ → Bool) (bytes : List ℕ) → position p bytes ≡ None → position_or_len p bytes ≡ length bytes
position-absent p bytes h = absent_by p bytes _ refl h
