-- A cast to the column's own type keeps its slots, and times lie in the day.
use Rattle.std.proofs.Common.{◌≡◌, ◌+◌, ◌≤◌, ℕ, zero, suc, ℤ, pos, negsuc, int_le, true, List, [], ◌∷◌, map, get_or, Option, Some, None, refl, arith}
use Rattle.std.specs.List.{list_all}
use Rattle.std.proofs.lemmas.Bool.{and_parts, false≢true, leb-true}
use Rattle.std.proofs.lemmas.Int.{ints}
use Rattle.col_types.specs.declared.data_type.DataType.{DataType, Time}
use Rattle.col_types.proofs.TypeLemmas.{same_type-itself}
use Rattle.col_types.specs.declared.cast_options.CastOptions.{CastOptions}
use Rattle.col_types.specs.declared.cast_options.CastOptions.TheVariants.{Strict, NonStrict, Overflowing}
use Rattle.col_model.specs.Arithmetic.{Interval, is_within}
use Rattle.col_model.specs.Value.{Value, Flat, Nested, Whole, Bytes}
use Rattle.col_model.specs.Formula.{X}
use Rattle.col_model.specs.Column.{Column, IsValidColumn, is_built_type, is_value_in, is_slot_of, values_of, day_values}
use Rattle.col_model.specs.CastTable.{CastRule, cast_rule, resolved_target}
use Rattle.col_model.specs.ColumnCalls.{cast_slot, first_lost, strict_refusal}
use Rattle.col_series.specs.Laws.{KeepsColumn, IsTimeOfDay, TimesLieInTheDay}
use Rattle.col_series.proofs.TypeLemmas.{by_built_type, built_good}

-- the rule that changes nothing
abbrev identity : CastRule
identity = record { formula = X; monotone = true }

own_rule : (options : CastOptions) (dtype : DataType) → cast_rule dtype dtype options ≡ Some identity
own_rule options dtype = rw (same_type-itself dtype) refl

own_target : (dtype : DataType) → is_built_type dtype ≡ true → resolved_target dtype dtype ≡ dtype
own_target = by_built_type (λ dtype. resolved_target dtype dtype ≡ dtype) refl (λ unit zone. refl) (λ unit. refl) refl refl

kept_value : (range : Option Interval) (value : Value) → is_value_in range value ≡ true → cast_slot (Some identity) (Some value) ≡ Some value
kept_value range (Flat (Whole x)) h = refl
kept_value None (Flat (Bytes b)) h = cc
kept_value (Some range) (Flat (Bytes b)) h = cc
kept_value None (Nested leaves) h = cc
kept_value (Some range) (Nested leaves) h = cc

kept_slot : (dtype : DataType) (slot : Option Value) → is_slot_of dtype slot ≡ true → cast_slot (Some identity) slot ≡ slot
kept_slot dtype None h = refl
kept_slot dtype (Some value) h = kept_value (values_of dtype) value h

pub kept_slots : (dtype : DataType) (slots : List (Option Value)) → list_all (is_slot_of dtype) slots ≡ true → map (cast_slot (Some identity)) slots ≡ slots
kept_slots dtype [] h = refl
kept_slots dtype (slot ∷ slots) h =
    let parts = and_parts _ _ h in
    let here = kept_slot dtype slot parts.0 in
    let rest = kept_slots dtype slots parts.1 in
    cc

pub none_lost : (dtype : DataType) (row : ℕ) (slots : List (Option Value)) → list_all (is_slot_of dtype) slots ≡ true → first_lost (cast_slot (Some identity)) row slots ≡ None
none_lost dtype row [] h = refl
none_lost dtype row (None ∷ slots) h = none_lost dtype (row + 1) slots h
none_lost dtype row (Some value ∷ slots) h =
    let parts = and_parts _ _ h in
    rw (kept_slot dtype (Some value) parts.0) (none_lost dtype (row + 1) slots parts.1)

pub not_refused : (options : CastOptions) → strict_refusal options None ≡ None
not_refused Strict = refl
not_refused NonStrict = refl
not_refused Overflowing = refl

pub kept_column : (column : Column) (options : CastOptions) → IsValidColumn column → KeepsColumn column options
kept_column column options valid =
    let lost = none_lost column.dtype 0 column.slots valid.values in
    let kept = kept_slots column.dtype column.slots valid.values in
    rw (own_target column.dtype valid.typed) (rw (built_good column.dtype valid.typed, own_rule options column.dtype, own_rule NonStrict column.dtype) (rw (lost, kept) (rw (not_refused options) refl)))

-- ---- times

time_of_day : (x : ℤ) → is_within day_values x ≡ true → IsTimeOfDay x
time_of_day (pos n) h =
    let le : n ≤ 86399999999999 = leb-true n 86399999999999 (and_parts (int_le (pos 0) (pos n)) (int_le (pos n) (pos 86399999999999)) h).1 in
    record { from_midnight = omega (arith, ints); to_last = omega (arith, ints) }
time_of_day (negsuc n) h = absurd (false≢true h)

slot_at : (slots : List (Option Value)) (row : ℕ) → list_all (is_slot_of Time) slots ≡ true → is_slot_of Time (get_or slots row None) ≡ true
slot_at [] row h = refl
slot_at (slot ∷ slots) zero h = (and_parts _ _ h).0
slot_at (slot ∷ slots) (suc row) h = slot_at slots row (and_parts _ _ h).1

pub times_in_day : (column : Column) → IsValidColumn column → column.dtype ≡ Time → TimesLieInTheDay column
times_in_day column valid is row nanos e = time_of_day nanos (rw e at (slot_at column.slots row (rw is at valid.values)))
