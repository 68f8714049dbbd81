-- Slots of a type as slots of words.
use Rattle.std.proofs.Common.{◌≡◌, ◌+◌, ◌-◌, ◌^◌, ◌≤◌, ℕ, zero, suc, pos, negsuc, int_le, arith, Bool, true, List, [], ◌∷◌, map, Option, Some, None, refl, sym, ap, ◌∙◌, inl, inr, ◌⊎◌}
use Rattle.std.specs.List.{list_all}
use Rattle.std.specs.Option.{option_map}
use Rattle.std.specs.Int.{w8, w16, w32, w64, w128}
use Rattle.std.proofs.lemmas.Bool.{and_parts, and_from, leb-true, le-leb}
use Rattle.col_types.specs.declared.data_type.DataType.{DataType, Time, Boolean}
use Rattle.col_types.specs.declared.cast_options.CastOptions.TheVariants.{NonStrict}
use Rattle.col_model.specs.Arithmetic.{WordType, Signed, Unsigned, is_within, word_values}
use Rattle.col_model.specs.Value.{Value, Flat, Whole, Bytes, Nested, on_slot}
use Rattle.col_model.specs.Column.{day_values, truth_values, is_slot_of, is_value_in, values_of, physical_word}
use Rattle.col_model.specs.Chunked.{Chunked}
use Rattle.col_types.specs.declared.is_sorted.IsSorted.TheVariants.{Not}
use Rattle.col_rule.specs.Columns.{mapped_chunks}
use Rattle.col_model.specs.ColumnCalls.{first_lost}
use Rattle.col_model.specs.Formula.{X, value_of, slot_by}
use Rattle.col_model.specs.CastTable.{is_boolean, narrowed}
use Rattle.col_model.specs.Words.{is_word_slot}
use Rattle.col_cast.specs.Casts.{word_of}
use Rattle.col_cast.specs.Rows.{IsRowOf}
use Rattle.col_cast.specs.declared.row.Row.{Row}
use Rattle.col_cast.specs.declared.row.Row.TheVariants as rows

-- ---- slots that two functions take to one

one_more : (p : Option Value → Bool) (slot : Option Value) (slots : List (Option Value)) → list_all p (slot ∷ slots) ≡ true → (p slot ≡ true) × (list_all p slots ≡ true)
one_more p slot slots h = and_parts (p slot) (list_all p slots) h

alike : (p : Option Value → Bool) (f g : Option Value → Option Value) → ((slot : Option Value) → p slot ≡ true → f slot ≡ g slot)
    → (slots : List (Option Value)) → list_all p slots ≡ true → map f slots ≡ map g slots
alike p f g same [] h = refl
alike p f g same (slot ∷ slots) h =
    let parts = one_more p slot slots h in
    let here : f slot ≡ g slot = same slot parts.0 in
    let rest : map f slots ≡ map g slots = alike p f g same slots parts.1 in
    cc

lost_alike : (p : Option Value → Bool) (f g : Option Value → Option Value) → ((slot : Option Value) → p slot ≡ true → f slot ≡ g slot)
    → (row : ℕ) (slots : List (Option Value)) → list_all p slots ≡ true → first_lost f row slots ≡ first_lost g row slots
lost_alike p f g same row [] h = refl
lost_alike p f g same row (slot ∷ slots) h =
    let parts = one_more p slot slots h in
    let here : f slot ≡ g slot = same slot parts.0 in
    let rest : first_lost f (row + 1) slots ≡ first_lost g (row + 1) slots = lost_alike p f g same (row + 1) slots parts.1 in
    rw (here, rest) refl

-- ---- slots of a word

fitted-plain : (word : WordType) (slot : Option Value) → is_word_slot word slot ≡ true → on_slot (λ x. value_of (narrowed NonStrict word X) x x) slot ≡ on_slot (λ x. value_of X x x) slot
fitted-plain word None h = refl
fitted-plain word (Some (Flat (Whole x))) h = rw h refl
fitted-plain word (Some (Flat (Bytes b))) h = refl
fitted-plain word (Some (Nested leaves)) h = refl

pub held_slots : (word : WordType) (slots : List (Option Value)) → list_all (is_word_slot word) slots ≡ true
    → map (on_slot (λ x. value_of (narrowed NonStrict word X) x x)) slots ≡ map (on_slot (λ x. value_of X x x)) slots
held_slots word slots h =
    alike (is_word_slot word) (on_slot (λ x. value_of (narrowed NonStrict word X) x x)) (on_slot (λ x. value_of X x x)) (fitted-plain word) slots h

pub held_lost : (word : WordType) (slots : List (Option Value)) → list_all (is_word_slot word) slots ≡ true
    → first_lost (on_slot (λ x. value_of (narrowed NonStrict word X) x x)) 0 slots ≡ first_lost (slot_by X) 0 slots
held_lost word slots h =
    lost_alike (is_word_slot word) (on_slot (λ x. value_of (narrowed NonStrict word X) x x)) (slot_by X) (fitted-plain word) 0 slots h

pub held_chunks : (word : WordType) (dtype : DataType) (values : Chunked) → list_all (is_word_slot word) values.column.slots ≡ true
    → mapped_chunks (λ x. value_of (narrowed NonStrict word X) x x) dtype values ≡ mapped_chunks (λ x. value_of X x x) dtype values
held_chunks word dtype values h =
    ap (λ (slots : List (Option Value)). record { column = record values.column { dtype = dtype; slots = slots; flag = Not }; chunk_lengths = values.chunk_lengths })
    (held_slots word values.column.slots h)

-- ---- slots of a type

all_of : (p q : Option Value → Bool) → ((slot : Option Value) → p slot ≡ true → q slot ≡ true) → (slots : List (Option Value)) → list_all p slots ≡ true → list_all q slots ≡ true
all_of p q implies [] h = refl
all_of p q implies (slot ∷ slots) h =
    let parts = one_more p slot slots h in
    and_from _ _ (implies slot parts.0) (all_of p q implies slots parts.1)

day_word : (value : Value) → is_value_in (Some day_values) value ≡ true → is_value_in (Some (word_values (Signed w64))) value ≡ true
day_word (Flat (Whole (pos n))) h =
    let most : n ≤ 86399999999999 = leb-true n 86399999999999 ((and_parts (int_le (pos 0) (pos n)) (int_le (pos n) (pos 86399999999999)) h).1) in
    le-leb n (2 ^ 63 - 1) (omega arith)
day_word (Flat (Whole (negsuc n))) h = cc
day_word (Flat (Bytes b)) h = h
day_word (Nested leaves) h = h

-- each word holds 0 and 1
zero-held : (word : WordType) → is_within (word_values word) (pos 0) ≡ true
zero-held (Signed w8) = refl
zero-held (Signed w16) = refl
zero-held (Signed w32) = refl
zero-held (Signed w64) = refl
zero-held (Signed w128) = refl
zero-held (Unsigned w8) = refl
zero-held (Unsigned w16) = refl
zero-held (Unsigned w32) = refl
zero-held (Unsigned w64) = refl
zero-held (Unsigned w128) = refl

one-held : (word : WordType) → is_within (word_values word) (pos 1) ≡ true
one-held (Signed w8) = refl
one-held (Signed w16) = refl
one-held (Signed w32) = refl
one-held (Signed w64) = refl
one-held (Signed w128) = refl
one-held (Unsigned w8) = refl
one-held (Unsigned w16) = refl
one-held (Unsigned w32) = refl
one-held (Unsigned w64) = refl
one-held (Unsigned w128) = refl

truth_word : (word : WordType) (value : Value) → is_value_in (Some truth_values) value ≡ true → is_value_in (Some (word_values word)) value ≡ true
truth_word word (Flat (Whole (pos zero))) h = zero-held word
truth_word word (Flat (Whole (pos (suc zero)))) h = one-held word
truth_word word (Flat (Whole (pos (suc (suc n))))) h =
    let few : suc (suc n) ≤ 1 = leb-true (suc (suc n)) 1 ((and_parts (int_le (pos 0) (pos (suc (suc n)))) (int_le (pos (suc (suc n))) (pos 1)) h).1) in
    absurd (omega arith)
truth_word word (Flat (Whole (negsuc n))) h = cc
truth_word word (Flat (Bytes b)) h = h
truth_word word (Nested leaves) h = h

own_word : (stored : Option WordType) (word : WordType) (value : Value) → stored ≡ Some word → is_value_in (option_map word_values stored) value ≡ true → is_value_in (Some (word_values word)) value ≡ true
own_word stored word value e h = rw e at h

typed_value : (dtype : DataType) (word : WordType) (value : Value) → word_of dtype ≡ Some word → is_value_in (values_of dtype) value ≡ true → is_value_in (Some (word_values word)) value ≡ true
typed_value Time word value e h = own_word (Some (Signed w64)) word value e (day_word value h)
typed_value Boolean word value e h = truth_word word value h
typed_value dtype word value e h = own_word (physical_word dtype) word value e h

typed_slot : (dtype : DataType) (word : WordType) → word_of dtype ≡ Some word → (slot : Option Value) → is_slot_of dtype slot ≡ true → is_word_slot word slot ≡ true
typed_slot dtype word e None h = refl
typed_slot dtype word e (Some value) h = typed_value dtype word value e h

-- the slots of a type are held by its word
typed_slots : (dtype : DataType) (word : WordType) (slots : List (Option Value)) → word_of dtype ≡ Some word → list_all (is_slot_of dtype) slots ≡ true
    → list_all (is_word_slot word) slots ≡ true
typed_slots dtype word slots e h = all_of (is_slot_of dtype) (is_word_slot word) (typed_slot dtype word e) slots h

truth_slot : (dtype : DataType) (word : WordType) → is_boolean dtype ≡ true → (slot : Option Value) → is_slot_of dtype slot ≡ true → is_word_slot word slot ≡ true
truth_slot dtype word e None h = refl
truth_slot Boolean word e (Some value) h = truth_word word value h
truth_slot dtype word e (Some value) h = cc

-- those of truth values are held by each word
truth_slots : (dtype : DataType) (word : WordType) (slots : List (Option Value)) → is_boolean dtype ≡ true → list_all (is_slot_of dtype) slots ≡ true
    → list_all (is_word_slot word) slots ≡ true
truth_slots dtype word slots e h = all_of (is_slot_of dtype) (is_word_slot word) (truth_slot dtype word e) slots h

-- those that a row keeps as they are, are held by the target's word
pub kept_slots : (from to : DataType) (row : Row) (word : WordType) (slots : List (Option Value)) → (row ≡ rows.Same) ⊎ (row ≡ rows.Number) → IsRowOf from to row
    → word_of to ≡ Some word → list_all (is_slot_of from) slots ≡ true → list_all (is_word_slot word) slots ≡ true
kept_slots from to row word slots (inl e) fits stored typed =
    let same : word_of to ≡ word_of from = rw e at fits in
    typed_slots from word slots (sym same ∙ stored) typed
kept_slots from to row word slots (inr e) fits stored typed =
    let truth : is_boolean from ≡ true = rw e at fits in
    truth_slots from word slots truth typed
