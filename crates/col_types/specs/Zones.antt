-- Which texts name a zone, and which zone each of them names.
use Rattle.std.specs.Prelude.{◌≡◌, ◌+◌, ◌-◌, ◌*◌, ◌≤◌, ◌==◌, ◌++◌, ◌&&◌, ◌||◌, ℕ, Bool, true, false}
use Rattle.std.specs.Prelude.{nat_lt, nat_le, nat_eq, drop, if◌then◌else◌, List, [], ◌∷◌, length}
use Rattle.std.specs.Prelude.{codes, Option, Some, None, option_and_then, option_map, Result, Ok}
use Rattle.std.specs.Prelude.{Err}
use Rattle.std.specs.Option.{ok_or, unwrap_or}
use Rattle.std.specs.Char.{is_ascii_digit}
use Rattle.std.specs.List.{list_any, starts_with}
use Rattle.std.specs.Str.{bytes_eq}
use Rattle.std.specs.Ordering.{nat_cmp}
use Rattle.std.specs.Cmp.Lexicographic.{slice_cmp}
use Rattle.std.specs.BTreeSet.{insert_key}
use Rattle.col_types.specs.declared.error.PolarsError.{PolarsError}
use Rattle.col_types.specs.declared.error.PolarsError.TheVariants.{Zone}
use Rattle.col_types.specs.DataType.{is_wildcard}

-- Whether the name is among the names.
abbrev pub has_name : List (List ℕ) → List ℕ → Bool
has_name names name = list_any (bytes_eq name) names

-- The names with one more, in the order of their bytes, each once.
abbrev pub with_name : List (List ℕ) → List ℕ → List (List ℕ)
with_name names name = insert_key (slice_cmp nat_cmp) names name

-- How many bytes of a name a zone has room for.
abbrev pub max_zone_bytes : ℕ
max_zone_bytes = 64

-- Each name has at most as many bytes as a zone has room for.
abbrev pub AreShort : List (List ℕ) → Type 0
AreShort names = (name : List ℕ) → has_name names name ≡ true → length name ≤ max_zone_bytes

-- The byte of the sign `+`.
abbrev pub plus : ℕ
plus = 43

-- The byte of the sign `-`.
abbrev pub minus : ℕ
minus = 45

-- The byte of a digit.
abbrev pub digit : ℕ → ℕ
digit n = 48 + n

-- Whether these are a sign and one digit.
abbrev pub is_short_ending : ℕ → ℕ → Bool
is_short_ending sign ones = (sign == plus || sign == minus) && is_ascii_digit ones

-- Whether these are `-10` to `-14`, or `+10` to `+12`.
abbrev pub is_long_ending : ℕ → ℕ → ℕ → Bool
is_long_ending sign tens ones =
    tens == digit 1 && nat_le (digit 0) ones
    && (sign == minus && nat_le ones (digit 4) || sign == plus && nat_le ones (digit 2))

-- Whether this may stand after `Etc/GMT`.
abbrev pub is_gmt_ending : List ℕ → Bool
is_gmt_ending (sign ∷ ones ∷ []) = is_short_ending sign ones
is_gmt_ending (sign ∷ tens ∷ ones ∷ []) = is_long_ending sign tens ones
is_gmt_ending _ = false

-- What the name of each zone by whole hours begins with.
abbrev pub gmt_prefix : List ℕ
gmt_prefix = codes "Etc/GMT"

-- Whether the name is one of `Etc/GMT-14` to `Etc/GMT-0`, and `Etc/GMT+0` to `Etc/GMT+12`.
abbrev pub is_gmt_name : List ℕ → Bool
is_gmt_name name =
    starts_with nat_eq name gmt_prefix && is_gmt_ending (drop (length gmt_prefix) name)

-- Whether the name is accepted, where the names are those that were handed in.
abbrev pub is_accepted : List (List ℕ) → List ℕ → Bool
is_accepted names name = bytes_eq name (codes "UTC") || is_gmt_name name || has_name names name

-- The name, where it is accepted.
abbrev pub accepted_name : List (List ℕ) → List ℕ → Option (List ℕ)
accepted_name names name = if is_accepted names name then Some name else None

-- Whether the text is one of the other spellings of `UTC`.
abbrev pub is_utc_spelling : List ℕ → Bool
is_utc_spelling text =
    bytes_eq text (codes "+00:00") || bytes_eq text (codes "00:00") || bytes_eq text (codes "utc")

-- An hour without a leading zero.
abbrev pub hour_text : ℕ → List ℕ
hour_text hour = if nat_lt hour 10 then digit hour ∷ [] else digit 1 ∷ digit (hour - 10) ∷ []

-- The name for an offset of so many hours, behind `UTC` or before it: the sign is turned.
abbrev pub gmt_name : Bool → ℕ → List ℕ
gmt_name behind hour =
    gmt_prefix ++ ((if behind then codes "+" else codes "-") ++ hour_text hour)

-- The number that two digits write.
abbrev pub two_digits : ℕ → ℕ → ℕ
two_digits tens ones = (tens - digit 0) * 10 + (ones - digit 0)

-- Whether no minutes follow an hour.
abbrev pub is_full_hour : List ℕ → Bool
is_full_hour minutes = bytes_eq minutes (codes "00") || bytes_eq minutes (codes ":00")

-- Whether two digits and what follows them are an offset: `00` to `14`, and no minutes.
abbrev pub is_offset : ℕ → ℕ → List ℕ → Bool
is_offset tens ones minutes =
    is_ascii_digit tens && is_ascii_digit ones && nat_le (two_digits tens ones) 14
    && is_full_hour minutes

-- The name for an offset without its sign.
abbrev pub unsigned_offset_name : Bool → List ℕ → Option (List ℕ)
unsigned_offset_name behind (tens ∷ ones ∷ minutes) =
    if is_offset tens ones minutes then Some (gmt_name behind (two_digits tens ones)) else None
unsigned_offset_name behind _ = None

-- The name for a fixed offset.
abbrev pub offset_name : List ℕ → Option (List ℕ)
offset_name [] = None
offset_name (byte ∷ text) =
    if byte == plus then unsigned_offset_name false text
    else (if byte == minus then unsigned_offset_name true text
    else unsigned_offset_name false (byte ∷ text))

-- The zone of a text that isn't empty, by the first rule that fits.
abbrev pub zone_of : List (List ℕ) → List ℕ → Option (List ℕ)
zone_of names text =
    if bytes_eq text (codes "*") then Some (codes "*")
    else (if is_utc_spelling text then Some (codes "UTC")
    else (if is_accepted names text then Some text
    else option_and_then (accepted_name names) (offset_name text)))

-- The zone of a text or of none: the empty text gives none, and one that names no zone is refused.
abbrev pub opt_zone : List (List ℕ) → Option (List ℕ) → Result (Option (List ℕ)) PolarsError
opt_zone names None = Ok None
opt_zone names (Some []) = Ok None
opt_zone names (Some (byte ∷ text)) = ok_or (option_map Some (zone_of names (byte ∷ text))) Zone

-- The name, which is refused where it isn't accepted.
abbrev pub parsed_zone : List (List ℕ) → List ℕ → Result (List ℕ) PolarsError
parsed_zone names name = ok_or (accepted_name names name) Zone

-- Whether the name is refused so.
abbrev pub validated_zone : List (List ℕ) → List ℕ → Result (Unit {0}) PolarsError
validated_zone names name = if is_accepted names name then Ok tt else Err Zone

-- The name for a fixed offset, where it is accepted without names that were handed in.
abbrev pub parsed_offset : List ℕ → Result (List ℕ) PolarsError
parsed_offset text = ok_or (option_and_then (accepted_name []) (offset_name text)) Zone

-- The text with the other spellings of `UTC` turned into it, and none for the empty one.
abbrev pub canonical_text : Option (List ℕ) → Option (List ℕ)
canonical_text None = None
canonical_text (Some []) = None
canonical_text (Some (byte ∷ text)) =
    if is_utc_spelling (byte ∷ text) then Some (codes "UTC") else Some (byte ∷ text)

-- Whether two zones are equal, or one of them is the wildcard.
abbrev pub eq_wildcard_aware : List ℕ → List ℕ → Bool
eq_wildcard_aware this other =
    bytes_eq this other || is_wildcard (Some this) || is_wildcard (Some other)

-- The zone, or `UTC` where there is none.
abbrev pub none_as_utc : Option (List ℕ) → List ℕ
none_as_utc name = unwrap_or name (codes "UTC")

-- Whether two zones are equal, where none counts as `UTC`.
abbrev pub eq_none_as_utc : Option (List ℕ) → Option (List ℕ) → Bool
eq_none_as_utc this other = bytes_eq (none_as_utc this) (none_as_utc other)
