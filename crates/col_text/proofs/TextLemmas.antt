-- Names are text, since their bytes are ASCII, and a zone's name can be handed in.
use Rattle.std.proofs.Common.{◌≡◌, ◌≢◌, ◌<◌, ◌≤◌, ◌⊎◌, inl, inr, ℕ, Bool, true, false, List, [], ◌∷◌, refl, sym, ap, ◌∙◌, length, nat_eq, arith, zero, suc, lit<}
use Rattle.std.specs.Prelude.{◌&&◌, ◌||◌, nat_le, nat_lt, codes}
use Rattle.std.specs.Char.{is_ascii_graphic, is_ascii_alphanumeric}
use Rattle.std.specs.List.{list_all, list_any}
use Rattle.std.specs.Str.{IsAscii, IsUtf8}
use Rattle.std.proofs.lemmas.Str.{IsUtf8-from_ascii}
use Rattle.std.proofs.lemmas.Bool.{false≢true, and_parts, ltb-true, leb-true, eqb-true}
use Rattle.col_text.specs.Slots.{is_name}
use Rattle.col_text.specs.Zone.{is_zone_byte, is_zone_name}

either : (a b : Bool) → (a || b) ≡ true → (a ≡ true) ⊎ (b ≡ true)
either true b h = inl refl
either false b h = inr h

-- what each byte has to be for the text to be ASCII
abbrev IsAsciiTest : (ℕ → Bool) → Type 0
IsAsciiTest test = (byte : ℕ) → test byte ≡ true → byte < 128

IsAscii-all : (test : ℕ → Bool) → IsAsciiTest test → (bytes : List ℕ) → list_all test bytes ≡ true
    → IsAscii bytes
IsAscii-all test is_ascii [] h i = lit< tt
IsAscii-all test is_ascii (b ∷ bytes) h zero =
    is_ascii b (and_parts (test b) (list_all test bytes) h).0
IsAscii-all test is_ascii (b ∷ bytes) h (suc i) =
    IsAscii-all test is_ascii bytes (and_parts (test b) (list_all test bytes) h).1 i

up_to : (low high byte : ℕ) → high < 128 → (nat_le low byte && nat_le byte high) ≡ true → byte < 128
up_to low high byte small h =
    let most = (and_parts (nat_le low byte) (nat_le byte high) h).1 in
    let below : byte ≤ high = leb-true byte high most in
    omega arith

is_ascii_graphic-ascii : IsAsciiTest is_ascii_graphic
is_ascii_graphic-ascii byte h = up_to 33 126 byte (lit< tt) h

is_sign-ascii : IsAsciiTest (λ byte. list_any (nat_eq byte) (codes "/_+-:"))
is_sign-ascii byte h = grind (arith, eqb-true, either)

is_ascii_alphanumeric-ascii : IsAsciiTest is_ascii_alphanumeric
is_ascii_alphanumeric-ascii byte h =
    let digit = nat_le 48 byte && nat_le byte 57 in
    let capital = nat_le 65 byte && nat_le byte 90 in
    let small = nat_le 97 byte && nat_le byte 122 in
    elim (either (digit || capital) small h) [
      | inr at ↦ up_to 97 122 byte (lit< tt) at
      | inl other ↦ elim (either digit capital other) [
        | inr at ↦ up_to 65 90 byte (lit< tt) at
        | inl at ↦ up_to 48 57 byte (lit< tt) at
      ]
    ]

is_zone_byte-ascii : IsAsciiTest is_zone_byte
is_zone_byte-ascii byte h =
    let sign = list_any (nat_eq byte) (codes "/_+-:") in
    elim (either (is_ascii_alphanumeric byte) sign h) [
      | inr at ↦ is_sign-ascii byte at
      | inl letter ↦ is_ascii_alphanumeric-ascii byte letter
    ]

-- visible bytes are text
pub IsUtf8-graphic : (bytes : List ℕ) → list_all is_ascii_graphic bytes ≡ true → IsUtf8 bytes
IsUtf8-graphic bytes h =
    IsUtf8-from_ascii bytes (IsAscii-all is_ascii_graphic is_ascii_graphic-ascii bytes h)

-- a name is text
pub IsUtf8-name : (bytes : List ℕ) → is_name bytes ≡ true → IsUtf8 bytes
IsUtf8-name bytes h = IsUtf8-graphic bytes (and_parts _ (list_all is_ascii_graphic bytes) h).1

-- a zone's name is text
pub IsUtf8-zone_name : (bytes : List ℕ) → is_zone_name bytes ≡ true → IsUtf8 bytes
IsUtf8-zone_name bytes h =
    IsUtf8-from_ascii bytes
    (IsAscii-all is_zone_byte is_zone_byte-ascii bytes (and_parts _ (list_all is_zone_byte bytes) h).1)

-- a zone's name isn't empty
pub is_zone_name-filled : (name : List ℕ) → is_zone_name name ≡ true → 0 < length name
is_zone_name-filled name h =
    ltb-true 0 (length name)
    (and_parts _ (nat_le (length name) 64) (and_parts _ (list_all is_zone_byte name) h).0).0

-- a zone's name has room
pub is_zone_name-short : (name : List ℕ) → is_zone_name name ≡ true → length name ≤ 64
is_zone_name-short name h =
    leb-true (length name) 64
    (and_parts (nat_lt 0 (length name)) _ (and_parts _ (list_all is_zone_byte name) h).0).1

-- a zone's name isn't the wildcard
pub is_zone_name-no_wildcard : (name : List ℕ) → is_zone_name name ≡ true → name ≢ codes "*"
is_zone_name-no_wildcard name h e = false≢true (sym (ap is_zone_name e) ∙ h)
