-- What an operator makes of ticks, the other one gives back.
use Rattle.std.specs.Prelude.{◌≡◌, ◌+◌, ◌-◌, ◌*◌, ◌%◌, ◌<◌, ◌+ℤ◌, ◌-ℤ◌, ◌*ℤ◌, ℕ, zero, suc, ℤ, pos, negsuc, neg_ℤ, true, List, length, Option, Some, None, Result, Ok, FitsSigned}
use Rattle.std.specs.Int.{w32, w64, int_wrapping_add, int_wrapping_sub, cast_signed, cast_unsigned}
use Rattle.std.proofs.Common.{refl, ap, sym, ◌∙◌, cond, arith, mod-lt}
use Rattle.std.proofs.lemmas.Int.{ints, to_z-of_z, of_z-to_z}
use Rattle.std.proofs.lemmas.Nat.{pow_pos}
use Rattle.col_types.specs.TimeUnit.{coarser_unit, ticks_per_day}
use Rattle.col_types.specs.declared.time_unit.TimeUnit.{TimeUnit}
use Rattle.col_types.specs.declared.time_unit.TimeUnit.TheVariants.{Nanoseconds, Microseconds, Milliseconds}
use Rattle.col_types.specs.declared.data_type.DataType.{DataType, Date, Datetime, Duration}
use Rattle.col_types.specs.declared.is_sorted.IsSorted.TheVariants.{Not}
use Rattle.col_types.specs.declared.operator.BinOp.TheVariants.{Add, Sub}
use Rattle.col_types.specs.declared.error.PolarsError.{PolarsError}
use Rattle.col_model.specs.Arithmetic.{Signed, wrapped_value, fitting_value, floor_by, is_within, word_values}
use Rattle.col_model.specs.Value.{Value, Flat, Nested, Whole, Bytes, integer_slot}
use Rattle.col_model.specs.Column.{Column, is_slot_of}
use Rattle.col_model.specs.Formula.{Formula, X, Y, Sum, Difference, value_of, slots_by}
use Rattle.col_model.specs.UnitChange.{unit_change, times}
use Rattle.col_model.specs.declared.ticks.UnitChange.TheVariants.{Same}
use Rattle.col_model.specs.OperatorTable.{OperatorRule, operator_rule, wrapping, date_joined}
use Rattle.col_model.specs.OperatorCalls.{binary_of, binary_column, slot_in}
use Rattle.col_kernel.specs.WordLaws.{held-wrapped, held_from_within, wrapped-held}
use Rattle.col_arith.specs.Laws.{AddThenSubtract, SubtractThenAdd, and_then, where_valid, slots_where_valid}
use Rattle.col_arith.proofs.TickLemmas.{wrapped-sum, wrapped-difference}
use Rattle.col_arith.proofs.PairLemmas.{slot_in-valid, equal_slots, equal_binary, binary-length, binary-slot, binary-slots}

-- ---- sums and differences that wrap

rest-back : (m n : ℕ) → m < 18446744073709551616 → n < 18446744073709551616
    → ((m + n) % 18446744073709551616 + (18446744073709551616 - n)) % 18446744073709551616 ≡ m
rest-back m n f g = omega arith

below : (x : ℤ) → FitsSigned w64 x → cast_unsigned w64 x < 18446744073709551616
below (pos n) f = let s = f.sfits in omega arith
below (negsuc n) f = let s = f.sfits in omega arith

wrapping-back : (x y : ℤ) → FitsSigned w64 x → FitsSigned w64 y → int_wrapping_sub w64 (int_wrapping_add w64 x y) y ≡ x
wrapping-back x y f g =
    let sum = of_z-to_z w64 ((cast_unsigned w64 x + cast_unsigned w64 y) % 18446744073709551616) (mod-lt (cast_unsigned w64 x + cast_unsigned w64 y) (pow_pos 64)) in
    ap (λ (n : ℕ). cast_signed w64 ((n + (18446744073709551616 - cast_unsigned w64 y)) % 18446744073709551616)) sum
    ∙ ap (cast_signed w64) (rest-back (cast_unsigned w64 x) (cast_unsigned w64 y) (below x f) (below y g))
    ∙ to_z-of_z w64 x f

-- what is added is taken away again
pub back-wrapped : (x y : ℤ) → FitsSigned w64 x → FitsSigned w64 y
    → wrapped_value (Signed w64) (wrapped_value (Signed w64) (x +ℤ y) -ℤ y) ≡ x
back-wrapped x y f g =
    sym (wrapped-difference (wrapped_value (Signed w64) (x +ℤ y)) y (held-wrapped (Signed w64) (x +ℤ y)) g)
    ∙ ap (λ (v : ℤ). int_wrapping_sub w64 v y) (sym (wrapped-sum x y f g)) ∙ wrapping-back x y f g

-- ---- dates

apart-joined : (x y : ℤ) → (y *ℤ pos 86400000) +ℤ ((x -ℤ y) *ℤ pos 86400000) ≡ x *ℤ pos 86400000
apart-joined x y = omega (arith, ints)

days-back : (x : ℤ) → floor_by (x *ℤ pos 86400000) 86400000 ≡ x
days-back (pos n) = ap pos (omega arith)
days-back (negsuc n) = below_zero (suc n * 86400000) n refl
  where
    below_zero : (m n : ℕ) → m ≡ suc n * 86400000 → floor_by (neg_ℤ (pos m)) 86400000 ≡ negsuc n
    below_zero zero n e = absurd (omega arith)
    below_zero (suc m) n e = ap negsuc (omega arith)

millis-fit : (x : ℤ) → is_within (word_values (Signed w32)) x ≡ true → FitsSigned w64 (x *ℤ pos 86400000)
millis-fit x h = let f = held_from_within (Signed w32) x h in record { sfits = omega (arith, ints, f.sfits) }

-- ---- slots

same_change : (unit : TimeUnit) → unit_change unit unit ≡ Same
same_change Nanoseconds = refl
same_change Microseconds = refl
same_change Milliseconds = refl

same_coarser : (unit : TimeUnit) → coarser_unit unit unit ≡ unit
same_coarser Nanoseconds = refl
same_coarser Microseconds = refl
same_coarser Milliseconds = refl

-- ticks of one unit, wrapped to 64 bits
wrapped_ticks : (Formula → Formula → Formula) → DataType → OperatorRule
wrapped_ticks join dtype = record { dtype = dtype; formula = wrapping join X Y }

own_sum : (u : TimeUnit) (z : Option (List ℕ)) → operator_rule Add (Datetime u z) (Duration u) ≡ Ok (wrapped_ticks Sum (Datetime u z))
unfolding wrapped_ticks
own_sum u z = rw (same_coarser u) (rw (same_change u) refl)

own_difference : (u : TimeUnit) (z : Option (List ℕ)) → operator_rule Sub (Datetime u z) (Duration u) ≡ Ok (wrapped_ticks Difference (Datetime u z))
unfolding wrapped_ticks
own_difference u z = rw (same_coarser u) (rw (same_change u) refl)

slot-back : (u : TimeUnit) (z : Option (List ℕ)) (moment length : Option Value)
    → is_slot_of (Datetime u z) moment ≡ true → is_slot_of (Duration u) length ≡ true
    → slots_by (wrapped_ticks Difference (Datetime u z)).formula (slots_by (wrapped_ticks Sum (Datetime u z)).formula moment length) length ≡ where_valid moment length
unfolding wrapped_ticks
slot-back u z None None f g = refl
slot-back u z None (Some length) f g = refl
slot-back u z (Some (Flat (Whole x))) None f g = refl
slot-back u z (Some (Flat (Whole x))) (Some (Flat (Whole y))) f g =
    ap (λ (v : ℤ). Some (Flat (Whole v))) (back-wrapped x y (held_from_within (Signed w64) x f) (held_from_within (Signed w64) y g))
slot-back u z (Some (Flat (Whole x))) (Some (Flat (Bytes b))) f g = cc
slot-back u z (Some (Flat (Whole x))) (Some (Nested l)) f g = cc
slot-back u z (Some (Flat (Bytes b))) length f g = cc
slot-back u z (Some (Nested l)) length f g = cc

-- days apart, and a day so long after another
days_apart : OperatorRule
days_apart = record { dtype = Duration Milliseconds; formula = times (ticks_per_day Milliseconds) (Difference X Y) }

day_after : OperatorRule
day_after = record { dtype = Date; formula = date_joined Sum Milliseconds }

day-back : (x y : ℤ) → is_within (word_values (Signed w32)) x ≡ true → value_of day_after.formula y ((x -ℤ y) *ℤ pos 86400000) ≡ Some x
unfolding day_after
day-back x y h =
    let wrapped : wrapped_value (Signed w64) ((y *ℤ pos 86400000) +ℤ ((x -ℤ y) *ℤ pos 86400000)) ≡ x *ℤ pos 86400000 =
    ap (wrapped_value (Signed w64)) (apart-joined x y) ∙ wrapped-held (Signed w64) (x *ℤ pos 86400000) (millis-fit x h) in
    ap (λ (v : ℤ). fitting_value (word_values (Signed w32)) (floor_by v 86400000)) wrapped
    ∙ ap (fitting_value (word_values (Signed w32))) (days-back x)
    ∙ ap (λ b. cond b (Some x) None) h

date-back : (date other : Option Value) → is_slot_of Date date ≡ true → is_slot_of Date other ≡ true
    → slots_by day_after.formula other (slots_by days_apart.formula date other) ≡ where_valid date other
unfolding days_apart day_after
date-back None None f g = refl
date-back None (Some (Flat (Whole y))) f g = refl
date-back None (Some (Flat (Bytes b))) f g = refl
date-back None (Some (Nested l)) f g = refl
date-back (Some (Flat (Whole x))) None f g = refl
date-back (Some (Flat (Whole x))) (Some (Flat (Whole y))) f g = ap integer_slot (day-back x y f)
date-back (Some (Flat (Whole x))) (Some (Flat (Bytes b))) f g = cc
date-back (Some (Flat (Whole x))) (Some (Nested l)) f g = cc
date-back (Some (Flat (Bytes b))) other f g = cc
date-back (Some (Nested l)) other f g = cc

-- ---- columns

own_back : (u : TimeUnit) (z : Option (List ℕ)) (dtype : DataType) → dtype ≡ Duration u
    → operator_rule Sub (wrapped_ticks Sum (Datetime u z)).dtype dtype ≡ Ok (wrapped_ticks Difference (Datetime u z))
unfolding wrapped_ticks
own_back u z dtype e = rw e (own_difference u z)

same_type : (u : TimeUnit) (z : Option (List ℕ)) (dtype : DataType) → dtype ≡ Datetime u z → (wrapped_ticks Difference (Datetime u z)).dtype ≡ dtype
unfolding wrapped_ticks
same_type u z dtype e = sym e

pub add_then_subtract : (moments lengths : Column) (u : TimeUnit) (z : Option (List ℕ)) → AddThenSubtract moments lengths u z
add_then_subtract moments lengths u z paired =
    let n = length moments.slots in
    let sum = wrapped_ticks Sum (Datetime u z) in
    let difference = wrapped_ticks Difference (Datetime u z) in
    let later = binary_column moments lengths n sum in
    let up : binary_of Add moments lengths ≡ Ok later =
    equal_binary Add moments lengths sum paired.lengths (rw (paired.left_is, paired.right_is) (own_sum u z)) in
    let rows : length later.slots ≡ n = binary-length moments lengths n sum in
    let down : binary_of Sub later lengths ≡ Ok (binary_column later lengths (length later.slots) difference) =
    equal_binary Sub later lengths difference (rows ∙ paired.lengths) (own_back u z lengths.dtype paired.right_is) in
    let slots : (binary_column later lengths (length later.slots) difference).slots ≡ slots_where_valid moments lengths =
    ap (λ (k : ℕ). (binary_column later lengths k difference).slots) rows
    ∙ binary-slots later lengths n difference rows (sym paired.lengths)
    ∙ equal_slots _ _ n (λ row h. ap (λ (s : Option Value). slots_by difference.formula s (slot_in lengths row)) (binary-slot moments lengths n sum row refl (sym paired.lengths) h)
    ∙ slot-back u z (slot_in moments row) (slot_in lengths row)
    (rw paired.left_is at (slot_in-valid moments.dtype moments.slots row paired.left_valid.values))
    (rw paired.right_is at (slot_in-valid lengths.dtype lengths.slots row paired.right_valid.values))) in
    let filled : DataType → List (Option Value) → Result Column PolarsError = λ dtype slots. Ok (record { name = moments.name; dtype = dtype; slots = slots; flag = Not }) in
    ap (λ (r : Result Column PolarsError). and_then r (λ later. binary_of Sub later lengths)) up ∙ down
    ∙ ap (filled difference.dtype) slots ∙ ap (λ (d : DataType). filled d (slots_where_valid moments lengths)) (same_type u z moments.dtype paired.left_is)

pub subtract_then_add : (dates others : Column) → SubtractThenAdd dates others
unfolding days_apart day_after
subtract_then_add dates others paired =
    let n = length dates.slots in
    let apart = binary_column dates others n days_apart in
    let up : binary_of Sub dates others ≡ Ok apart =
    equal_binary Sub dates others days_apart paired.lengths (rw (paired.left_is, paired.right_is) refl) in
    let rows : length apart.slots ≡ n = binary-length dates others n days_apart in
    let down : binary_of Add others apart ≡ Ok (binary_column others apart (length others.slots) day_after) =
    equal_binary Add others apart day_after (sym paired.lengths ∙ sym rows) (rw paired.right_is refl) in
    let slots : (binary_column others apart (length others.slots) day_after).slots ≡ slots_where_valid dates others =
    ap (λ (k : ℕ). (binary_column others apart k day_after).slots) (sym paired.lengths)
    ∙ binary-slots others apart n day_after (sym paired.lengths) rows
    ∙ equal_slots _ _ n (λ row h. ap (λ (s : Option Value). slots_by day_after.formula (slot_in others row) s) (binary-slot dates others n days_apart row refl (sym paired.lengths) h)
    ∙ date-back (slot_in dates row) (slot_in others row)
    (rw paired.left_is at (slot_in-valid dates.dtype dates.slots row paired.left_valid.values))
    (rw paired.right_is at (slot_in-valid others.dtype others.slots row paired.right_valid.values))) in
    let filled : DataType → List (Option Value) → Result Column PolarsError = λ dtype slots. Ok (record { name = others.name; dtype = dtype; slots = slots; flag = Not }) in
    ap (λ (r : Result Column PolarsError). and_then r (λ apart. binary_of Add others apart)) up ∙ down
    ∙ ap (filled Date) slots ∙ ap (λ (d : DataType). filled d (slots_where_valid dates others)) (sym paired.right_is)
