-- The types of which columns exist, and what their slots are.
use Rattle.std.proofs.Common.{◌≡◌, ◌<◌, ◌≤◌, ◌^◌, ◌+◌, ◌-◌, ◌&&◌, ℕ, ℤ, pos, negsuc, int_le, Bool, true, false, not, List, [], ◌∷◌, map, length, get_or, Option, Some, None, refl, ap, ◌∙◌, cond, arith, zero, suc}
use Rattle.std.specs.List.{list_all, position_from}
use Rattle.std.specs.Int.{w32, w64}
use Rattle.std.proofs.lemmas.Bool.{false≢true, and_parts, and_from, leb-true, le-leb}
use Rattle.col_types.specs.DataType.{is_bad_target, is_nested, is_wildcard}
use Rattle.col_types.specs.declared.data_type.DataType.{DataType, Int64, Date, Datetime, Duration, Time, Decimal, List', Array'}
use Rattle.col_types.specs.declared.time_unit.TimeUnit.{TimeUnit}
use Rattle.col_model.specs.Arithmetic.{Signed, word_values, is_within}
use Rattle.col_model.specs.Value.{integer_slot}
use Rattle.col_model.specs.Column.{is_built_type, is_slot_of, day_values}
use Rattle.col_model.specs.CastTable.{resolved_target}
use Rattle.col_model.specs.ColumnCalls.{is_unfit, is_built_target}
use Rattle.col_series.specs.Slots.{is_fit, is_tick_slot}

-- what holds of each temporal type holds of each type of which columns exist
pub by_built_type : (P : DataType → Type 0) → P Date → ((unit : TimeUnit) (zone : Option (List ℕ)) → P (Datetime unit zone)) → ((unit : TimeUnit) → P (Duration unit)) → P Time → P Int64 → (dtype : DataType) → is_built_type dtype ≡ true → P dtype
by_built_type P date moment length time int64 Date h = date
by_built_type P date moment length time int64 (Datetime unit zone) h = moment unit zone
by_built_type P date moment length time int64 (Duration unit) h = length unit
by_built_type P date moment length time int64 Time h = time
by_built_type P date moment length time int64 Int64 h = int64
by_built_type P date moment length time int64 dtype h = absurd (false≢true h)

-- such a type isn't nested
pub built_flat : (dtype : DataType) → is_built_type dtype ≡ true → is_nested dtype ≡ false
built_flat = by_built_type (λ dtype. is_nested dtype ≡ false) refl (λ unit zone. refl) (λ unit. refl) refl refl

-- a target that columns can have and that isn't bad is such a type
pub built_target : (target : DataType) → is_built_target target ≡ true → is_bad_target target ≡ false → is_built_type target ≡ true
built_target Date h good = refl
built_target (Datetime unit _) h good = rw good refl
built_target (Duration unit) h good = refl
built_target Time h good = refl
built_target Int64 h good = refl
built_target (Decimal precision scale) h good = absurd (false≢true (rw good at h))
built_target (List' place leaf) h good = absurd (false≢true (rw good at h))
built_target (Array' place leaf width) h good = absurd (false≢true (rw good at h))
built_target dtype h good = cc

-- such a type is no bad target
pub built_good : (dtype : DataType) → is_built_type dtype ≡ true → is_bad_target dtype ≡ false
built_good Date h = refl
built_good (Datetime unit name) h = unless (is_wildcard name) h
  where
    unless : (wild : Bool) → (not wild && true) ≡ true → wild ≡ false
    unless false i = refl
    unless true i = cc
built_good (Duration unit) h = refl
built_good Time h = refl
built_good Int64 h = refl
built_good dtype h = cc

-- such a type leaves nothing open as a target
pub built_settled : (from target : DataType) → is_built_type target ≡ true → resolved_target from target ≡ target
built_settled from = by_built_type (λ t. resolved_target from t ≡ t) (date from) (λ unit zone. moment unit zone from) (λ unit. length unit from) (time from) (int64 from)
  where
    date : (from : DataType) → resolved_target from Date ≡ Date
    date (Decimal p s) = refl
    date from = refl

    moment : (unit : TimeUnit) (zone : Option (List ℕ)) (from : DataType) → resolved_target from (Datetime unit zone) ≡ Datetime unit zone
    moment unit zone (Decimal p s) = refl
    moment unit zone from = refl

    length : (unit : TimeUnit) (from : DataType) → resolved_target from (Duration unit) ≡ Duration unit
    length unit (Decimal p s) = refl
    length unit from = refl

    time : (from : DataType) → resolved_target from Time ≡ Time
    time (Decimal p s) = refl
    time from = refl

    int64 : (from : DataType) → resolved_target from Int64 ≡ Int64
    int64 (Decimal p s) = refl
    int64 from = refl

-- ---- words

pub within-pos : (n : ℕ) → n < 2 ^ 63 → is_within (word_values (Signed w64)) (pos n) ≡ true
within-pos n h = le-leb n (2 ^ 63 - 1) (omega arith)

pub within-negsuc : (n : ℕ) → n < 2 ^ 63 → is_within (word_values (Signed w64)) (negsuc n) ≡ true
within-negsuc n h = and_from _ _ (le-leb n (2 ^ 63 - 1) (omega arith)) refl

-- 64 bits hold what 32 hold
pub wider : (x : ℤ) → is_within (word_values (Signed w32)) x ≡ true → is_within (word_values (Signed w64)) x ≡ true
wider (pos n) h = let le : n ≤ 2 ^ 31 - 1 = leb-true n (2 ^ 31 - 1) h in within-pos n (omega arith)
wider (negsuc n) h = let le : n ≤ 2 ^ 31 - 1 = leb-true n (2 ^ 31 - 1) (and_parts _ _ h).0 in within-negsuc n (omega arith)

-- and the times of a day
pub day-wider : (x : ℤ) → is_within day_values x ≡ true → is_within (word_values (Signed w64)) x ≡ true
day-wider (pos n) h = let le : n ≤ 86399999999999 = leb-true n 86399999999999 (and_parts (int_le (pos 0) (pos n)) (int_le (pos n) (pos 86399999999999)) h).1 in within-pos n (omega arith)
day-wider (negsuc n) h = absurd (false≢true h)

-- a slot of a type is one of 64 bits
pub fit_tick : (dtype : DataType) → is_built_type dtype ≡ true → (slot : Option ℤ) → is_fit dtype slot ≡ true → is_tick_slot slot ≡ true
fit_tick dtype typed None h = refl
fit_tick dtype typed (Some x) h = by_built_type (λ t. is_fit t (Some x) ≡ true → is_tick_slot (Some x) ≡ true) (wider x) (λ unit zone i. i) (λ unit i. i) (day-wider x) (λ i. i) dtype typed h

pub fit_ticks : (dtype : DataType) → is_built_type dtype ≡ true → (slots : List (Option ℤ)) → list_all (is_fit dtype) slots ≡ true → list_all is_tick_slot slots ≡ true
fit_ticks dtype typed [] h = refl
fit_ticks dtype typed (slot ∷ slots) h = let parts = and_parts _ _ h in and_from _ _ (fit_tick dtype typed slot parts.0) (fit_ticks dtype typed slots parts.1)

-- ---- lists

-- each slot of a list of fit ones is fit, and so is the null past its end
pub fit_at : (dtype : DataType) (slots : List (Option ℤ)) (row : ℕ) → list_all (is_fit dtype) slots ≡ true → is_fit dtype (get_or slots row None) ≡ true
fit_at dtype [] row h = refl
fit_at dtype (slot ∷ slots) zero h = (and_parts _ _ h).0
fit_at dtype (slot ∷ slots) (suc row) h = fit_at dtype slots row (and_parts _ _ h).1

in_range_fit : (dtype : DataType) (slots : List (Option ℤ)) (row : ℕ) (default : Option ℤ) → list_all (is_fit dtype) slots ≡ true → row < length slots → is_fit dtype (get_or slots row default) ≡ true
in_range_fit dtype [] row default h less = absurd (omega arith)
in_range_fit dtype (slot ∷ slots) zero default h less = (and_parts _ _ h).0
in_range_fit dtype (slot ∷ slots) (suc row) default h less = in_range_fit dtype slots row default (and_parts _ _ h).1 (omega arith)

-- the same where the code reads it
pub fit_read : (dtype : DataType) (slots : List (Option ℤ)) (row : ℕ) (slot : Option ℤ) → list_all (is_fit dtype) slots ≡ true → row < length slots → slot ≡ get_or slots row slot → is_fit dtype slot ≡ true
fit_read dtype slots row slot h less e = ap (is_fit dtype) e ∙ in_range_fit dtype slots row slot h less

-- where no slot is unfit, all are fit
pub none_unfit : (dtype : DataType) (row : ℕ) (slots : List (Option ℤ)) → position_from (is_unfit dtype) row slots ≡ None → list_all (is_fit dtype) slots ≡ true
none_unfit dtype row [] none = refl
none_unfit dtype row (slot ∷ slots) none = step (is_fit dtype slot) none (none_unfit dtype (row + 1) slots)
  where
    step : (fit : Bool) → cond (not fit) (Some row) (position_from (is_unfit dtype) (row + 1) slots) ≡ None
        → (position_from (is_unfit dtype) (row + 1) slots ≡ None → list_all (is_fit dtype) slots ≡ true)
        → (fit && list_all (is_fit dtype) slots) ≡ true
    step true none rest = rest none
    step false none rest = cc

-- a column's slots are fit where its ticks are
pub values-ticks : (dtype : DataType) (ticks : List (Option ℤ)) → list_all (is_slot_of dtype) (map integer_slot ticks) ≡ list_all (is_fit dtype) ticks
values-ticks dtype [] = refl
values-ticks dtype (slot ∷ ticks) = rw (values-ticks dtype ticks) refl
