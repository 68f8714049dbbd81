-- Slots as words, and where they are moved.
use Rattle.std.proofs.Common.{◌≡◌, ℕ, zero, suc, ℤ, true, List, [], ◌∷◌, map, length, get_or, Option, Some, None, Ok, Result, refl, ap, ◌∙◌}
use Rattle.std.specs.List.{list_all, range_with_len}
use Rattle.std.specs.Int.{w32, w64}
use Rattle.std.specs.Option.{option_and_then}
use Rattle.std.proofs.lemmas.Bool.{and_parts, and_from}
use Rattle.col_types.specs.declared.data_type.DataType.{DataType}
use Rattle.col_types.specs.declared.error.PolarsError.{PolarsError}
use Rattle.col_model.specs.Arithmetic.{WordType, Signed, is_within, word_values, wrapped_value}
use Rattle.col_model.specs.Broadcast.{row_before}
use Rattle.col_model.specs.Chunked.{Chunked}
use Rattle.col_model.specs.Column.{Column, IsValidColumn, is_built_type, is_slot_of, physical_word}
use Rattle.col_model.specs.OperatorCalls.{shifted, slot_in}
use Rattle.col_model.specs.Value.{Value, integer_slot, whole}
use Rattle.col_model.specs.Words.{is_word_slot}
use Rattle.col_kernel.specs.WordLaws.{held_from_within, wrapped-held}
use Rattle.col_logical.specs.Logical.{lie_in_the_day, retyped}
use Rattle.col_series.specs.Slots.{is_fit}
use Rattle.col_series.proofs.TypeLemmas.{by_built_type, day-wider}
use Rattle.col_series.proofs.CastLemmas.{in-day}

-- an integer of the word is what its word reads as
pub word-read : (word : WordType) (x read : ℤ) → is_within (word_values word) x ≡ true → read ≡ wrapped_value word x → read ≡ x
word-read word x read within is = is ∙ wrapped-held word x (held_from_within word x within)

-- ---- slots of a type are those of its word

same-word : (word other : WordType) → Some word ≡ Some other → word ≡ other
same-word word other e = cc

fit-word : (dtype : DataType) → is_built_type dtype ≡ true → (word : WordType) → physical_word dtype ≡ Some word → (slot : Option ℤ) → is_fit dtype slot ≡ true → is_word_slot word (integer_slot slot) ≡ true
fit-word dtype built word e None h = refl
fit-word dtype built word e (Some x) h =
    by_built_type (λ d. physical_word d ≡ Some word → is_fit d (Some x) ≡ true → is_word_slot word (Some (whole x)) ≡ true)
    (λ s i. rw (← same-word (Signed w32) word s) i) (λ unit zone s i. rw (← same-word (Signed w64) word s) i) (λ unit s i. rw (← same-word (Signed w64) word s) i)
    (λ s i. rw (← same-word (Signed w64) word s) (day-wider x i)) (λ s i. rw (← same-word (Signed w64) word s) i) dtype built e h

pub fit-words : (dtype : DataType) (word : WordType) → is_built_type dtype ≡ true → physical_word dtype ≡ Some word → (slots : List (Option ℤ)) → list_all (is_fit dtype) slots ≡ true
    → list_all (is_word_slot word) (map integer_slot slots) ≡ true
fit-words dtype word built e [] h = refl
fit-words dtype word built e (slot ∷ slots) h =
    let parts = and_parts _ _ h in
    and_from _ _ (fit-word dtype built word e slot parts.0) (fit-words dtype word built e slots parts.1)

-- ---- slots that are moved

slot-at : (dtype : DataType) (slots : List (Option Value)) (row : ℕ) → list_all (is_slot_of dtype) slots ≡ true → is_slot_of dtype (get_or slots row None) ≡ true
slot-at dtype [] row h = refl
slot-at dtype (slot ∷ slots) zero h = (and_parts _ _ h).0
slot-at dtype (slot ∷ slots) (suc row) h = slot-at dtype slots row (and_parts _ _ h).1

slot-before : (dtype : DataType) (column : Column) (before : Option ℕ) → list_all (is_slot_of dtype) column.slots ≡ true → is_slot_of dtype (option_and_then (slot_in column) before) ≡ true
slot-before dtype column None h = refl
slot-before dtype column (Some row) h = slot-at dtype column.slots row h

each-fit : (dtype : DataType) (f : ℕ → Option Value) (rows : List ℕ) → ((row : ℕ) → is_slot_of dtype (f row) ≡ true) → list_all (is_slot_of dtype) (map f rows) ≡ true
each-fit dtype f [] h = refl
each-fit dtype f (row ∷ rows) h = and_from _ _ (h row) (each-fit dtype f rows h)

-- a shift keeps slots of a type
shifted-fit : (dtype : DataType) (column : Column) (periods : ℤ) → list_all (is_slot_of dtype) column.slots ≡ true → list_all (is_slot_of dtype) (shifted column periods).slots ≡ true
shifted-fit dtype column periods h =
    each-fit dtype (λ row. option_and_then (slot_in column) (row_before (length column.slots) periods row)) (range_with_len 0 (length column.slots))
    (λ row. slot-before dtype column (row_before (length column.slots) periods row) h)

abbrev pub answer : Column → Result Column PolarsError
answer column = Ok column

same-answer : (x y : Column) → answer x ≡ answer y → x ≡ y
same-answer x y e = cc

-- and so its words lie in the day where they have to
pub shifted-day : (column words moved : Chunked) (dtype : DataType) (periods : ℤ) → dtype ≡ column.column.dtype → column ≡ retyped column.column.dtype words → IsValidColumn column.column
    → answer (shifted words.column periods) ≡ answer moved.column → lie_in_the_day dtype moved.column.slots ≡ true
shifted-day column words moved dtype periods e is valid gave =
    let slots : column.column.slots ≡ words.column.slots = ap (λ (c : Chunked). c.column.slots) is in
    let fit : list_all (is_slot_of column.column.dtype) words.column.slots ≡ true = rw slots at valid.values in
    rw (e, ← same-answer (shifted words.column periods) moved.column gave) (in-day column.column.dtype (shifted words.column periods).slots (shifted-fit column.column.dtype words.column periods fit))
