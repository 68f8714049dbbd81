-- A line is written before its line feed, and a column's text has the lines of its integers.
use Rattle.std.proofs.Common.{◌≡◌, ◌+◌, ◌∙◌, ℕ, ℤ, pos, negsuc, false, true, List, [], ◌∷◌, ◌++◌, drop, length, Option, Some, None, refl, sym, ap, arith, int_le, unsigned_abs}
use Rattle.std.specs.List.{flat_map}
use Rattle.std.specs.Fmt.{decimal, signed_decimal}
use Rattle.std.proofs.lemmas.List.{drop-drop, drop_at}
use Rattle.std.proofs.lemmas.Bool.{false≢true, le-leb}
use Rattle.col_types.specs.declared.data_type.DataType.{DataType, Boolean, Int64}
use Rattle.col_model.specs.Column.{is_built_type}
use Rattle.col_model.specs.Value.{Value, Flat, Nested, Whole, Bytes}
use Rattle.col_text.specs.Answer.{line_of, slot_line, slot_text}

-- what stands behind digits that end at a place
pub behind_digits : (buffer digits rest : List ℕ) (start end : ℕ) → start + length digits ≡ end
    → drop start buffer ≡ digits ++ rest → drop end buffer ≡ rest
behind_digits buffer digits rest start end place written =
    ap (λ n. drop n buffer) (sym place) ∙ sym (drop-drop (length digits) start buffer)
    ∙ ap (drop (length digits)) written ∙ drop_at digits rest (length digits) refl

-- an integer that isn't negative has its magnitude's text
pub text_of-natural : (z : ℤ) → int_le (pos 0) z ≡ true → decimal (unsigned_abs z) ≡ signed_decimal z
text_of-natural (pos n) e = refl
text_of-natural (negsuc n) e = cc

-- a negative integer has a minus before that
pub text_of-negative : (z : ℤ) → int_le (pos 0) z ≡ false → 45 ∷ decimal (unsigned_abs z) ≡ signed_decimal z
text_of-negative (pos n) e = absurd (false≢true (sym e ∙ le-leb 0 n (omega arith)))
text_of-negative (negsuc n) e = refl

-- a slot of a type that is built has the text of its integer
slot_text-built : (dtype : DataType) (slot : Option Value) → is_built_type dtype ≡ true
    → slot_text Int64 slot ≡ slot_text dtype slot
slot_text-built dtype None built = refl
slot_text-built Boolean (Some (Flat (Whole x))) built = cc
slot_text-built dtype (Some (Flat (Whole x))) built = refl
slot_text-built dtype (Some (Flat (Bytes bytes))) built = refl
slot_text-built dtype (Some (Nested leaves)) built = refl

-- the lines of the slots of such a type
pub rows_of-slots : (dtype : DataType) (slots : List (Option Value)) → is_built_type dtype ≡ true
    → flat_map slot_line slots ≡ flat_map (λ slot. line_of (slot_text dtype slot)) slots
rows_of-slots dtype [] built = refl
rows_of-slots dtype (slot ∷ slots) built =
    ap (λ text. line_of text ++ flat_map slot_line slots) (slot_text-built dtype slot built)
    ∙ ap (λ rest. line_of (slot_text dtype slot) ++ rest) (rows_of-slots dtype slots built)

-- a text that is made of two parts, by what each part is
pub parts_text : (text given header rows shown : List ℕ) → text ≡ given ++ rows → given ≡ header → rows ≡ shown
    → text ≡ header ++ shown
parts_text text given header rows shown e f g = e ∙ ap (λ front. front ++ rows) f ∙ ap (λ behind. header ++ behind) g
