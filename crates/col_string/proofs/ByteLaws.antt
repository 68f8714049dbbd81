-- Laws of bytes as leaf slots.
use Rattle.std.specs.Prelude.{◌≡◌, ◌+◌, ◌≤◌, ◌<◌, ℕ, true, List, [], ◌∷◌, ◌++◌, length, map, take, drop, get_or, replicate, zero, suc, Option, Some, None, is_some, is_none, if◌then◌else◌}
use Rattle.std.proofs.Common.{refl, ap, sym, ◌∙◌, arith}
use Rattle.std.proofs.lemmas.List.{append_assoc, map-append, take-map, drop-map, length-map, length-take, length-drop}
use Rattle.std.proofs.lemmas.List.Sums.{sum_by-cons}
use Rattle.col_model.specs.ChunkCalls.{null_count}
use Rattle.std.specs.List.{list_all}
use Rattle.std.specs.Str.{IsUtf8, is_utf8}
use Rattle.std.proofs.lemmas.Str.{IsUtf8-append, IsUtf8-from_is_utf8, is_utf8-from_IsUtf8}
use Rattle.col_model.specs.Value.{Value, Flat, Bytes}
use Rattle.col_buffer.proofs.SlotLaws.{part-part}
use Rattle.col_string.specs.Runs.{passes}
use Rattle.col_string.specs.Texts.{byte_slot, bytes_reading, bytes_value, is_text_value, slot_byte}
use Rattle.col_string.proofs.RunLaws.{list_all-true, list_all-get}

pub slots_bytes : (bytes : List ℕ) → map slot_byte (map byte_slot bytes) ≡ bytes
slots_bytes [] = refl
slots_bytes (b ∷ bytes) = ap (λ (bs : List ℕ). b ∷ bs) (slots_bytes bytes)

-- the reading of a part of bytes
pub reading-part : (bytes : List ℕ) (start len : ℕ) → bytes_reading (take len (drop start (map byte_slot bytes))) ≡ bytes_value (take len (drop start bytes))
reading-part bytes start len =
    ap (λ (s : List (Option Value)). bytes_reading (take len s)) (drop-map byte_slot start bytes)
    ∙ ap bytes_reading (take-map byte_slot len (drop start bytes))
    ∙ ap (λ (bs : List ℕ). Flat (Bytes bs)) (slots_bytes (take len (drop start bytes)))

pub part-slots : (bytes : List ℕ) (start len : ℕ) → map byte_slot (take len (drop start bytes)) ≡ take len (drop start (map byte_slot bytes))
part-slots bytes start len = sym (ap (take len) (drop-map byte_slot start bytes) ∙ take-map byte_slot len (drop start bytes))

pub map-replicate : (n x : ℕ) → map byte_slot (replicate n x) ≡ replicate n (byte_slot x)
map-replicate zero x = refl
map-replicate (suc n) x = ap (λ (s : List (Option Value)). byte_slot x ∷ s) (map-replicate n x)

-- a part of a part
pub plain-part : (values others now : List ℕ) (o m k n : ℕ) → others ≡ values → take m (drop o values) ≡ now → o + m ≤ length values → k + n ≤ length (map byte_slot now)
    → map byte_slot (take n (drop (o + k) others)) ≡ take n (drop k (map byte_slot now))
plain-part values others now o m k n p e h room =
    let size : length now ≡ m = sym (ap length e) ∙ omega (arith, length-take m (drop o values), length-drop o values) in
    ap (λ (vs : List ℕ). map byte_slot (take n (drop (o + k) vs))) p
    ∙ ap (map byte_slot) (sym (part-part values o m k n (omega (arith, size, length-map now byte_slot))))
    ∙ ap (λ (bs : List ℕ). map byte_slot (take n (drop k bs))) e
    ∙ part-slots now k n

pub plain-repeat : (now many : List ℕ) (i n : ℕ) → i < length now → many ≡ replicate n (get_or now i 0) → map byte_slot many ≡ replicate n (get_or (map byte_slot now) i None)
plain-repeat now many i n h m = ap (map byte_slot) m ∙ map-replicate n (get_or now i 0) ∙ ap (λ (s : Option Value). replicate n s) (sym (get_at now i h))
  where
    get_at : (bs : List ℕ) (i : ℕ) → i < length bs → get_or (map byte_slot bs) i None ≡ byte_slot (get_or bs i 0)
    get_at [] i h = absurd (omega arith)
    get_at (b ∷ bs) zero h = refl
    get_at (b ∷ bs) (suc i) h = get_at bs i (omega arith)

-- a row of texts is UTF-8
pub text_is : (slots : List (Option Value)) (i : ℕ) (bytes : List ℕ) → i < length slots → list_all (passes is_text_value) slots ≡ true → Some (bytes_value bytes) ≡ get_or slots i None → IsUtf8 bytes
text_is slots i bytes h all e = IsUtf8-from_is_utf8 bytes (ap (passes is_text_value) e ∙ list_all-get (passes is_text_value) slots i None h all)

-- the bytes of two texts are a text
pub text-join : (a b : List ℕ) → IsUtf8 a → IsUtf8 b → is_text_value (bytes_reading (map byte_slot a ++ map byte_slot b)) ≡ true
text-join a b h k = ap (λ (bs : List ℕ). is_utf8 bs) (ap (map slot_byte) (sym (map-append byte_slot a b)) ∙ slots_bytes (a ++ b)) ∙ is_utf8-from_IsUtf8 (a ++ b) (IsUtf8-append a b h k)

pub reading-join : (a b : List ℕ) → bytes_reading (map byte_slot a ++ map byte_slot b) ≡ bytes_value (a ++ b)
reading-join a b = ap bytes_reading (sym (map-append byte_slot a b)) ∙ ap (λ (bs : List ℕ). Flat (Bytes bs)) (slots_bytes (a ++ b))

-- two texts behind what is written
pub join-written : (before after a b middle : List ℕ) → middle ≡ before ++ a → after ≡ middle ++ b → map byte_slot after ≡ map byte_slot before ++ (map byte_slot a ++ map byte_slot b)
join-written before after a b middle e f =
    ap (map byte_slot) (f ∙ ap (λ (bs : List ℕ). bs ++ b) e)
    ∙ map-append byte_slot (before ++ a) b
    ∙ ap (λ (s : List (Option Value)). s ++ map byte_slot b) (map-append byte_slot before a)
    ∙ append_assoc (map byte_slot before) (map byte_slot a) (map byte_slot b)

-- each byte is valid
pub byte_valid : (bytes : List ℕ) (i : ℕ) → i < length (map byte_slot bytes) → true ≡ is_some (get_or (map byte_slot bytes) i None)
byte_valid [] i h = absurd (omega arith)
byte_valid (b ∷ bytes) zero h = refl
byte_valid (b ∷ bytes) (suc i) h = byte_valid bytes i (omega arith)

pub no_nulls : (bytes : List ℕ) → 0 ≡ null_count (map byte_slot bytes)
no_nulls [] = refl
no_nulls (b ∷ bytes) = no_nulls bytes ∙ omega (arith, sum_by-cons (λ s. if is_none s then 1 else 0) (byte_slot b) (map byte_slot bytes))

pub ruleset byte_laws = (slots_bytes, reading-part, part-slots, map-append, length-map, list_all-true, part-part, map-replicate)
