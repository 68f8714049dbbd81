-- A zone's name in its place, with zeros after it.
use Rattle.std.specs.Prelude.{◌≡◌, ◌-◌, ◌≤◌, ◌++◌, ℕ, List, length, take, drop, replicate}
use Rattle.std.proofs.Common.{ap, ◌∙◌, sym, take-append-drop, arith}
use Rattle.std.proofs.lemmas.List.{length-take-le}
use Rattle.std.specs.Str.{IsUtf8}
use Rattle.col_types.specs.Zones.{max_zone_bytes}
use Rattle.col_types.specs.declared.time_zone.TimeZone.TheInside.{Inside}

-- The bytes are a name of the kept length, and zeros after it.
pub record IsPadded (z : Inside) : Type 0 where
  pub short : z.len ≤ max_zone_bytes
  pub whole : length z.bytes ≡ max_zone_bytes
  pub utf8 : IsUtf8 (take z.len z.bytes)
  pub zeros : drop z.len z.bytes ≡ replicate (max_zone_bytes - z.len) 0

-- The two fields.
abbrev inside : List ℕ → ℕ → Inside
inside bytes len = record { bytes = bytes; len = len }

-- The fields that keep a name.
abbrev pub padded : List ℕ → Inside
padded name =
    record { bytes = name ++ replicate (max_zone_bytes - length name) 0; len = length name }

-- The name determines the fields.
pub padded_back : (z : Inside) → IsPadded z → padded (take z.len z.bytes) ≡ z
padded_back z h =
    let len : length (take z.len z.bytes) ≡ z.len = length-take-le z.len z.bytes (omega arith) in
    let whole : take z.len z.bytes ++ replicate (max_zone_bytes - z.len) 0 ≡ z.bytes =
    ap (λ l. take z.len z.bytes ++ l) (sym h.zeros) ∙ take-append-drop z.len z.bytes in
    let bytes :
    take z.len z.bytes ++ replicate (max_zone_bytes - length (take z.len z.bytes)) 0 ≡ z.bytes =
    rw len whole in
    ap (λ b. inside b (length (take z.len z.bytes))) bytes ∙ ap (inside z.bytes) len
