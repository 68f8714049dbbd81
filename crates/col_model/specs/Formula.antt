-- The formulas of the tables as data, and what each gives: value, exact value, interval.
use Rattle.std.specs.Prelude.{ℕ, zero, suc, ℤ, pos, negsuc, ◌+ℤ◌, ◌-ℤ◌, ◌*ℤ◌, Option, Some}
use Rattle.std.specs.Prelude.{None, if◌then◌else◌, int_lt}
use Rattle.std.specs.Option.{option_and_then, option_map}
use Rattle.std.specs.Int.{int_min, int_max}
use Rattle.col_model.specs.Value.{Value, on_slot, on_slots}
use Rattle.col_model.specs.Arithmetic.{Interval, is_within, is_inside, WordType, word_values}
use Rattle.col_model.specs.Arithmetic.{fitting_value}
use Rattle.col_model.specs.Arithmetic.{wrapped_value, floor_by, trunc_by, floor_div, trunc_div}
use Rattle.col_model.specs.Arithmetic.{floor_mod, unless_zero}

-- a formula in the integers x and y of one or two slots
pub data Formula : Type 0 where
  X : Formula
  Y : Formula
  Constant : ℤ → Formula
  Sum : Formula → Formula → Formula
  Difference : Formula → Formula → Formula
  Product : Formula → Formula → Formula
  FloorBy : Formula → ℕ → Formula
  TruncBy : Formula → ℕ → Formula
  FloorDiv : Formula → Formula → Formula
  TruncDiv : Formula → Formula → Formula
  FloorMod : Formula → Formula → Formula
  Fit : Interval → Formula → Formula
  Wrap : WordType → Formula → Formula
  NonZero : Formula → Formula

-- a function of two integers, null where one of them is
abbrev pub on_both : (ℤ → ℤ → Option ℤ) → Option ℤ → Option ℤ → Option ℤ
on_both f None q = None
on_both f (Some x) None = None
on_both f (Some x) (Some y) = f x y

-- the quotient or rest that a division gives, null for a divisor 0
abbrev pub divided : (ℤ → ℤ → ℤ) → ℤ → ℤ → Option ℤ
divided f x y = unless_zero y (f x y)

-- 1, or 0 for 0
abbrev pub truth_of : ℤ → ℤ
truth_of (pos zero) = pos 0
truth_of (pos (suc n)) = pos 1
truth_of (negsuc n) = pos 1

-- the value of a formula, or null
abbrev pub value_of : Formula → ℤ → ℤ → Option ℤ
value_of X x y = Some x
value_of Y x y = Some y
value_of (Constant k) x y = Some k
value_of (Sum f g) x y = on_both (λ v w. Some (v +ℤ w)) (value_of f x y) (value_of g x y)
value_of (Difference f g) x y = on_both (λ v w. Some (v -ℤ w)) (value_of f x y) (value_of g x y)
value_of (Product f g) x y = on_both (λ v w. Some (v *ℤ w)) (value_of f x y) (value_of g x y)
value_of (FloorBy f k) x y = option_map (λ v. floor_by v k) (value_of f x y)
value_of (TruncBy f k) x y = option_map (λ v. trunc_by v k) (value_of f x y)
value_of (FloorDiv f g) x y = on_both (divided floor_div) (value_of f x y) (value_of g x y)
value_of (TruncDiv f g) x y = on_both (divided trunc_div) (value_of f x y) (value_of g x y)
value_of (FloorMod f g) x y = on_both (divided floor_mod) (value_of f x y) (value_of g x y)
value_of (Fit range f) x y = option_and_then (fitting_value range) (value_of f x y)
value_of (Wrap word f) x y = option_map (wrapped_value word) (value_of f x y)
value_of (NonZero f) x y = option_map truth_of (value_of f x y)

-- a slot under a formula in its integer, null where it is null
abbrev pub slot_by : Formula → Option Value → Option Value
slot_by formula slot = on_slot (λ x. value_of formula x x) slot

-- two slots under a formula in their integers, null where one of them is null
abbrev pub slots_by : Formula → Option Value → Option Value → Option Value
slots_by formula left right = on_slots (value_of formula) left right

-- the value with every fit and every wrap left out; null for a divisor 0 alone
abbrev pub exact_value_of : Formula → ℤ → ℤ → Option ℤ
exact_value_of X x y = Some x
exact_value_of Y x y = Some y
exact_value_of (Constant k) x y = Some k
exact_value_of (Sum f g) x y =
    on_both (λ v w. Some (v +ℤ w)) (exact_value_of f x y) (exact_value_of g x y)
exact_value_of (Difference f g) x y =
    on_both (λ v w. Some (v -ℤ w)) (exact_value_of f x y) (exact_value_of g x y)
exact_value_of (Product f g) x y =
    on_both (λ v w. Some (v *ℤ w)) (exact_value_of f x y) (exact_value_of g x y)
exact_value_of (FloorBy f k) x y = option_map (λ v. floor_by v k) (exact_value_of f x y)
exact_value_of (TruncBy f k) x y = option_map (λ v. trunc_by v k) (exact_value_of f x y)
exact_value_of (FloorDiv f g) x y =
    on_both (divided floor_div) (exact_value_of f x y) (exact_value_of g x y)
exact_value_of (TruncDiv f g) x y =
    on_both (divided trunc_div) (exact_value_of f x y) (exact_value_of g x y)
exact_value_of (FloorMod f g) x y =
    on_both (divided floor_mod) (exact_value_of f x y) (exact_value_of g x y)
exact_value_of (Fit range f) x y = exact_value_of f x y
exact_value_of (Wrap word f) x y = exact_value_of f x y
exact_value_of (NonZero f) x y = option_map truth_of (exact_value_of f x y)

-- ---- intervals

-- a function of two intervals, none where one of them is
abbrev pub on_intervals : (Interval → Interval → Option Interval) → Option Interval →
    Option Interval → Option Interval
on_intervals f None q = None
on_intervals f (Some p) None = None
on_intervals f (Some p) (Some q) = f p q

-- from the least to the greatest of four integers
unfoldable pub spanned : ℤ → ℤ → ℤ → ℤ → Interval
spanned a b c d =
    record { low = int_min (int_min a b) (int_min c d); high = int_max (int_max a b) (int_max c d) }

-- what a function gives at the four pairs of end points
abbrev pub at_ends : (ℤ → ℤ → ℤ) → Interval → Interval → Interval
at_ends f p q = spanned (f p.low q.low) (f p.low q.high) (f p.high q.low) (f p.high q.high)

-- what a function that never decreases gives at the two ends
abbrev pub between_ends : (ℤ → ℤ) → Interval → Interval
between_ends f p = record { low = f p.low; high = f p.high }

-- the interval of a quotient, none where the divisor may be 0
abbrev pub quotient_interval : (ℤ → ℤ → ℤ) → Interval → Interval → Option Interval
quotient_interval f p q = if is_within q (pos 0) then None else Some (at_ends f p q)

-- the interval of a rest, none where the divisor may be 0
abbrev pub rest_interval : Interval → Interval → Option Interval
rest_interval p q =
    if is_within q (pos 0) then None
    else if int_lt (pos 0) q.low then Some (record { low = pos 0; high = q.high -ℤ pos 1 })
    else Some (record { low = q.low +ℤ pos 1; high = pos 0 })

-- the interval, none where it isn't inside the other
abbrev pub inside_interval : Interval → Interval → Option Interval
inside_interval range p = if is_inside range p then Some p else None

-- where the values of a formula lie, none where a fit could fail, a wrap could change its value or
-- a divisor could be 0
abbrev pub interval_of : Formula → Interval → Interval → Option Interval
interval_of X a b = Some a
interval_of Y a b = Some b
interval_of (Constant k) a b = Some (record { low = k; high = k })
interval_of (Sum f g) a b =
    on_intervals (λ p q. Some (record { low = p.low +ℤ q.low; high = p.high +ℤ q.high }))
    (interval_of f a b) (interval_of g a b)
interval_of (Difference f g) a b =
    on_intervals (λ p q. Some (record { low = p.low -ℤ q.high; high = p.high -ℤ q.low }))
    (interval_of f a b) (interval_of g a b)
interval_of (Product f g) a b =
    on_intervals (λ p q. Some (at_ends ◌*ℤ◌ p q)) (interval_of f a b) (interval_of g a b)
interval_of (FloorBy f k) a b = option_map (between_ends (λ v. floor_by v k)) (interval_of f a b)
interval_of (TruncBy f k) a b = option_map (between_ends (λ v. trunc_by v k)) (interval_of f a b)
interval_of (FloorDiv f g) a b =
    on_intervals (quotient_interval floor_div) (interval_of f a b) (interval_of g a b)
interval_of (TruncDiv f g) a b =
    on_intervals (quotient_interval trunc_div) (interval_of f a b) (interval_of g a b)
interval_of (FloorMod f g) a b = on_intervals rest_interval (interval_of f a b) (interval_of g a b)
interval_of (Fit range f) a b = option_and_then (inside_interval range) (interval_of f a b)
interval_of (Wrap word f) a b =
    option_and_then (inside_interval (word_values word)) (interval_of f a b)
interval_of (NonZero f) a b =
    option_map (λ p. record { low = pos 0; high = pos 1 }) (interval_of f a b)
