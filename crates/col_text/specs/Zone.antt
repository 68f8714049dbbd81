-- The line of a zone.
use Rattle.std.specs.Prelude.{ℕ, Bool, ◌&&◌, ◌||◌, nat_eq, nat_lt, nat_le, List, [], ◌∷◌, length}
use Rattle.std.specs.Prelude.{Option, Some, None, if◌then◌else◌, codes}
use Rattle.std.specs.Char.{is_ascii_alphanumeric}
use Rattle.std.specs.List.{list_all, list_any}
use Rattle.col_types.specs.Zones.{max_zone_bytes}

-- a letter, a digit, or one of the signs of zones' names
abbrev pub is_zone_byte : ℕ → Bool
is_zone_byte byte = is_ascii_alphanumeric byte || list_any (nat_eq byte) (codes "/_+-:")

-- the name of a zone that a script can hand in has 1 to 64 such bytes
abbrev pub is_zone_name : List ℕ → Bool
is_zone_name text =
    nat_lt 0 (length text) && nat_le (length text) max_zone_bytes && list_all is_zone_byte text

-- the zone that stands behind `zone`: one name
abbrev pub zone_line : List (List ℕ) → Option (List ℕ)
zone_line (name ∷ []) = if is_zone_name name then Some name else None
zone_line _ = None
