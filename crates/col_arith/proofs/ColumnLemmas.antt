-- Columns of words under the tables' rules.
use Rattle.std.specs.Prelude.{◌≡◌, ◌≤◌, ◌-◌, ◌-ℤ◌, int_le, ℕ, ℤ, pos, negsuc, true, false, Bool, List, [], ◌∷◌, length, map, Option, Some, None, Result, Ok, Err, FitsSigned, IfOk, cond}
use Rattle.std.specs.List.{list_all}
use Rattle.std.specs.Int.{w64}
use Rattle.std.specs.Option.{option_and_then}
use Rattle.std.proofs.Common.{refl, sym, ap, subst, ◌∙◌, arith, inl, inr}
use Rattle.std.proofs.lemmas.Bool.{and_parts, cases_lt, false≢true, leb-true}
use Rattle.std.proofs.lemmas.Int.{ints}
use Rattle.col_types.specs.PolarsError.{Gives, GivesBy, seen_by}
use Rattle.col_types.specs.declared.data_type.DataType.{DataType, Time}
use Rattle.col_types.specs.declared.error.PolarsError.{PolarsError}
use Rattle.col_types.specs.declared.error.PolarsError.TheVariants as errors
use Rattle.col_types.specs.declared.is_sorted.IsSorted.TheVariants.{Not}
use Rattle.col_model.specs.Arithmetic.{WordType, Signed, fitting_value, is_within, word_values}
use Rattle.col_model.specs.Broadcast.{broadcast_length}
use Rattle.col_model.specs.Chunked.{Chunked, column_of}
use Rattle.col_model.specs.Column.{Column, day_values, is_slot_of}
use Rattle.col_model.specs.Formula.{Formula, X, Y, Difference, Fit, value_of}
use Rattle.col_model.specs.OperatorCalls.{binary_by, operand_slot}
use Rattle.col_model.specs.OperatorTable.{wrapping}
use Rattle.col_model.specs.ScalarTable.{right_form, left_form}
use Rattle.col_model.specs.Words.{word_dtype}
use Rattle.col_model.specs.Value.{Value, Flat, Nested, Whole, Bytes, integer_slot, on_slot, on_slots}
use Rattle.col_kernel.specs.WordLaws.{wrapped-held}
use Rattle.col_logical.specs.Logical.{lie_in_the_day, retyped}
use Rattle.col_rule.specs.Columns.{mapped_chunks, mapped_column, paired_by, paired_column}
use Rattle.col_arith.specs.declared.scalars.ScalarForm.{ScalarForm}
use Rattle.col_arith.specs.declared.scalars.ScalarForm.TheVariants.{Right, Left, Checked}
use Rattle.col_arith.specs.declared.scalars.Ticks.{Ticks}
use Rattle.col_arith.specs.Checked.{checked_form}
use Rattle.col_arith.specs.Joined.{joined_by}
use Rattle.col_arith.specs.ScalarForm.{FitsType, bounded_by, form_of, scalar_of, scalar_words, word_of}
use Rattle.col_arith.proofs.PairLemmas.{equal_slots, slot_in-valid}

-- ---- two columns

-- the column as one of another type
abbrev as_type : DataType → Column → Column
as_type dtype column = record column { dtype = dtype }

-- the types of two columns don't matter for their rows
rows-same : (formula : Formula) (dtype d left_type right_type : DataType) (left right : Column) (rows : Option ℕ)
    → binary_by (as_type left_type left) (as_type right_type right) rows (Ok (record { dtype = dtype; formula = formula }))
    ≡ seen_by (as_type dtype) (paired_by (value_of formula) d left right rows)
rows-same formula dtype d left_type right_type left right None = refl
rows-same formula dtype d left_type right_type left right (Some rows) = refl

-- so two columns give what their words give, read as the type
pub joined-words : (formula : Formula) (dtype d : DataType) (left right first second : Chunked)
    → left ≡ retyped left.column.dtype first → right ≡ retyped right.column.dtype second
    → joined_by formula dtype left.column right.column
    ≡ seen_by (as_type dtype) (paired_column (value_of formula) d first.column second.column)
joined-words formula dtype d left right first second e f =
    ap (λ (c : Chunked). joined_by formula dtype c.column right.column) e
    ∙ ap (λ (c : Chunked). joined_by formula dtype (retyped left.column.dtype first).column c.column) f
    ∙ rows-same formula dtype d left.column.dtype right.column.dtype first.column second.column
    (broadcast_length (length first.column.slots) (length second.column.slots))

pub gives-typed : (words : Result Chunked PolarsError) (dtype : DataType) (expected : Result Column PolarsError)
    → GivesBy column_of words expected → GivesBy column_of (seen_by (retyped dtype) words) (seen_by (as_type dtype) expected)
gives-typed (Ok words) dtype expected h = ap (seen_by (as_type dtype)) h
gives-typed (Err errors.NoMemory) dtype expected h = tt
gives-typed (Err refusal) dtype expected h = ap (seen_by (as_type dtype)) h

-- what gives a column, up to want of memory, gives what the column does
through : (given result : Result Chunked PolarsError) (expected : Result Column PolarsError)
    → GivesBy column_of given expected → Gives result given → GivesBy column_of result expected
through given (Ok column) expected h is = subst (λ (r : Result Chunked PolarsError). GivesBy column_of r expected) is h
through given (Err errors.NoMemory) expected h is = tt
through given (Err refusal) expected h is = subst (λ (r : Result Chunked PolarsError). GivesBy column_of r expected) is h

-- two columns give what is read of the answer of their words
pub joined-answer : (formula : Formula) (dtype d : DataType) (left right first second : Chunked) (words result : Result Chunked PolarsError)
    → left ≡ retyped left.column.dtype first → right ≡ retyped right.column.dtype second
    → GivesBy column_of words (paired_column (value_of formula) d first.column second.column)
    → Gives result (seen_by (retyped dtype) words)
    → GivesBy column_of result (joined_by formula dtype left.column right.column)
joined-answer formula dtype d left right first second words result e f given is =
    through (seen_by (retyped dtype) words) result (joined_by formula dtype left.column right.column)
    (subst (λ (r : Result Column PolarsError). GivesBy column_of (seen_by (retyped dtype) words) r)
    (sym (joined-words formula dtype d left right first second e f))
    (gives-typed words dtype (paired_column (value_of formula) d first.column second.column) given)) is

-- ---- times of the day

in_day : (n : ℕ) → is_within day_values (pos n) ≡ true → n ≤ 86399999999999
in_day n h = leb-true n 86399999999999 (and_parts (int_le (pos 0) (pos n)) (int_le (pos n) (pos 86399999999999)) h).1

apart-fits : (x y : ℤ) → is_within day_values x ≡ true → is_within day_values y ≡ true → FitsSigned w64 (x -ℤ y)
apart-fits (pos m) (pos n) h g =
    let first = in_day m h in
    let second = in_day n g in
    elim (cases_lt m n) [
      | inl less ↦ let e : pos m -ℤ pos n ≡ negsuc (n - m - 1) = omega (arith, ints) in rw e (record { sfits = omega arith })
      | inr more ↦ let e : pos m -ℤ pos n ≡ pos (m - n) = omega (arith, ints) in rw e (record { sfits = omega arith })
    ]
apart-fits (negsuc m) y h g = absurd (false≢true h)
apart-fits (pos m) (negsuc n) h g = absurd (false≢true g)

-- what lies between two of them doesn't wrap
slots-apart : (x y : Option Value) → is_slot_of Time x ≡ true → is_slot_of Time y ≡ true
    → on_slots (value_of (wrapping Difference X Y)) x y ≡ on_slots (value_of (Difference X Y)) x y
slots-apart None y h g = refl
slots-apart (Some (Flat (Whole x))) None h g = refl
slots-apart (Some (Flat (Whole x))) (Some (Flat (Whole y))) h g =
    ap (λ (v : ℤ). Some (Flat (Whole v))) (wrapped-held (Signed w64) (x -ℤ y) (apart-fits x y h g))
slots-apart (Some (Flat (Whole x))) (Some (Flat (Bytes b))) h g = cc
slots-apart (Some (Flat (Whole x))) (Some (Nested l)) h g = cc
slots-apart (Some (Flat (Bytes b))) y h g = refl
slots-apart (Some (Nested l)) y h g = refl

-- the words of a column of times
pub times-words : (column words : Chunked) → column.column.dtype ≡ Time → column ≡ retyped column.column.dtype words
    → list_all (is_slot_of column.column.dtype) column.column.slots ≡ true → list_all (is_slot_of Time) words.column.slots ≡ true
times-words column words typed e h =
    subst (λ (slots : List (Option Value)). list_all (is_slot_of Time) slots ≡ true) (ap (λ (c : Chunked). c.column.slots) e)
    (subst (λ (d : DataType). list_all (is_slot_of d) column.column.slots ≡ true) typed h)

pub times-apart : (d : DataType) (left right : Column) → list_all (is_slot_of Time) left.slots ≡ true → list_all (is_slot_of Time) right.slots ≡ true
    → paired_column (value_of (wrapping Difference X Y)) d left right ≡ paired_column (value_of (Difference X Y)) d left right
times-apart d left right h g = go (broadcast_length (length left.slots) (length right.slots))
  where
    filled : List (Option Value) → Result Column PolarsError
    filled slots = Ok (record { name = left.name; dtype = d; slots = slots; flag = Not })

    go : (rows : Option ℕ) → paired_by (value_of (wrapping Difference X Y)) d left right rows ≡ paired_by (value_of (Difference X Y)) d left right rows
    go None = refl
    go (Some rows) =
        ap filled (equal_slots _ _ rows (λ row less.
        slots-apart (operand_slot left row) (operand_slot right row) (slot_in-valid Time left.slots _ h) (slot_in-valid Time right.slots _ g)))

-- ---- a column and an integer

-- what lies in the day or is null, whatever it comes from
bounded-slot : (f : ℤ → Option ℤ) (slot : Option Value) → ((x : ℤ) → is_slot_of Time (integer_slot (f x)) ≡ true) → is_slot_of Time (on_slot f slot) ≡ true
bounded-slot f None h = refl
bounded-slot f (Some (Flat (Whole x))) h = h x
bounded-slot f (Some (Flat (Bytes b))) h = refl
bounded-slot f (Some (Nested leaves)) h = refl

bounded-slots : (f : ℤ → Option ℤ) (slots : List (Option Value)) → ((x : ℤ) → is_slot_of Time (integer_slot (f x)) ≡ true)
    → list_all (is_slot_of Time) (map (on_slot f) slots) ≡ true
bounded-slots f [] h = refl
bounded-slots f (slot ∷ slots) h = rw (bounded-slot f slot h) (bounded-slots f slots h)

fitted : (value : Option ℤ) → is_slot_of Time (integer_slot (option_and_then (fitting_value day_values) value)) ≡ true
fitted None = refl
fitted (Some x) = go (is_within day_values x) refl
  where
    go : (b : Bool) → is_within day_values x ≡ b → is_slot_of Time (integer_slot (cond b (Some x) None)) ≡ true
    go true e = e
    go false e = refl

-- a column gives what is read of the answer of its words
scalar-same : (column words : Chunked) (form : ScalarForm) (k : ℤ) (ticks : Ticks)
    → FitsType column.column.dtype ticks → column ≡ retyped column.column.dtype words
    → scalar_of column.column form k ≡ seen_by (as_type column.column.dtype) (seen_by column_of (scalar_words (word_of ticks) (bounded_by ticks (form_of form k (word_of ticks))) k words))
scalar-same column words form k ticks fits e = go form (is_within (word_values (word_of ticks)) k) refl
  where
    mapped_same : (f : ℤ → Option ℤ) → mapped_column f column.column.dtype column.column ≡ as_type column.column.dtype (mapped_column f (word_dtype (word_of ticks)) words.column)
    mapped_same f = ap (λ (c : Chunked). mapped_column f column.column.dtype c.column) e

    answer : Column → Result Column PolarsError
    answer column = Ok column

    go : (form : ScalarForm) (within : Bool) → is_within (word_values (word_of ticks)) k ≡ within
        → scalar_of column.column form k ≡ seen_by (as_type column.column.dtype) (seen_by column_of (scalar_words (word_of ticks) (bounded_by ticks (form_of form k (word_of ticks))) k words))
    go (Right op) true inside = rw (fits.answer, fits.word) (rw fits.word (rw (inside, fits.bound (right_form op k (word_of ticks))) (ap answer (mapped_same (λ x. value_of (bounded_by ticks (right_form op k (word_of ticks))) x x)))))
    go (Right op) false out = rw (fits.answer, fits.word) (rw fits.word (rw out refl))
    go (Left op) true inside = rw (fits.answer, fits.word) (rw fits.word (rw (inside, fits.bound (left_form k op (word_of ticks))) (ap answer (mapped_same (λ x. value_of (bounded_by ticks (left_form k op (word_of ticks))) x x)))))
    go (Left op) false out = rw (fits.answer, fits.word) (rw fits.word (rw out refl))
    go Checked true inside = rw (fits.checked, fits.word) (rw fits.word (rw (inside, fits.bound (checked_form k (word_of ticks))) (ap answer (mapped_same (λ x. value_of (bounded_by ticks (checked_form k (word_of ticks))) x x)))))
    go Checked false out = rw (fits.checked, fits.word) (rw fits.word (rw out refl))

gives-retyped : (given : Result Chunked PolarsError) (dtype : DataType) (expected : Result Chunked PolarsError)
    → Gives given expected → GivesBy column_of (seen_by (retyped dtype) given) (seen_by (as_type dtype) (seen_by column_of expected))
gives-retyped (Ok words) dtype expected h = ap (λ (r : Result Chunked PolarsError). seen_by (as_type dtype) (seen_by column_of r)) h
gives-retyped (Err errors.NoMemory) dtype expected h = tt
gives-retyped (Err refusal) dtype expected h = ap (λ (r : Result Chunked PolarsError). seen_by (as_type dtype) (seen_by column_of r)) h

pub scalar-answer : (column words : Chunked) (dtype : DataType) (form : ScalarForm) (k : ℤ) (ticks : Ticks) (given result : Result Chunked PolarsError)
    → column.column.dtype ≡ dtype → FitsType dtype ticks → column ≡ retyped column.column.dtype words
    → Gives given (scalar_words (word_of ticks) (bounded_by ticks (form_of form k (word_of ticks))) k words)
    → Gives result (seen_by (retyped dtype) given)
    → GivesBy column_of result (scalar_of column.column form k)
scalar-answer column words dtype form k ticks given result typed fits e gives is =
    let own = subst (λ (d : DataType). FitsType d ticks) (sym typed) fits in
    let read : Gives result (seen_by (retyped column.column.dtype) given) =
    subst (λ (d : DataType). Gives result (seen_by (retyped d) given)) (sym typed) is in
    through (seen_by (retyped column.column.dtype) given) result (scalar_of column.column form k)
    (subst (λ (r : Result Column PolarsError). GivesBy column_of (seen_by (retyped column.column.dtype) given) r)
    (sym (scalar-same column words form k ticks own e))
    (gives-retyped given column.column.dtype (scalar_words (word_of ticks) (bounded_by ticks (form_of form k (word_of ticks))) k words) gives)) read

-- times that a formula gives lie in the day
times-bounded : (formula : Formula) (slots : List (Option Value))
    → list_all (is_slot_of Time) (map (on_slot (λ x. value_of (Fit day_values formula) x x)) slots) ≡ true
times-bounded formula slots = bounded-slots (λ x. value_of (Fit day_values formula) x x) slots (λ x. fitted (value_of formula x x))

pub scalar-times : (given : Result Chunked PolarsError) (word : WordType) (formula : Formula) (k : ℤ) (words : Chunked)
    → Gives given (scalar_words word (Fit day_values formula) k words) → IfOk given (λ times. lie_in_the_day Time times.column.slots ≡ true)
scalar-times (Err refusal) word formula k words gives = tt
scalar-times (Ok times) word formula k words gives = go (is_within (word_values word) k) gives
  where
    changed : Chunked
    changed = mapped_chunks (λ x. value_of (Fit day_values formula) x x) (word_dtype word) words

    go : (within : Bool) → cond within (Ok changed) (Err (errors.Scalar k)) ≡ Ok times → lie_in_the_day Time times.column.slots ≡ true
    go true e =
        let same : changed ≡ times = cc in
        subst (λ (t : Chunked). lie_in_the_day Time t.column.slots ≡ true) same (times-bounded formula words.column.slots)
    go false e = cc
