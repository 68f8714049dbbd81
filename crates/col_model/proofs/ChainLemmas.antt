-- Casts between units: slots, and chains of casts.
use Rattle.std.proofs.Common.{◌≡◌, ◌≤◌, ℕ, ℤ, Bool, true, false, if◌then◌else◌, List, [], ◌∷◌, Option, Some, None, refl, ap, sym, ◌∙◌, arith}
use Rattle.std.specs.Option.{option_and_then}
use Rattle.std.proofs.lemmas.Bool.{and_parts, and_from, leb-true, le-leb}
use Rattle.col_types.specs.TimeUnit.{nanos_per_tick}
use Rattle.col_types.specs.DataType.{same_zone}
use Rattle.col_types.specs.declared.time_unit.TimeUnit.{TimeUnit}
use Rattle.col_types.specs.declared.time_unit.TimeUnit.TheVariants.{Nanoseconds, Microseconds, Milliseconds}
use Rattle.col_types.specs.declared.data_type.DataType.{DataType, Duration}
use Rattle.col_model.specs.Value.{Value, Flat, Nested, Whole, Bytes, whole, integer_slot, on_slot}
use Rattle.col_model.specs.Formula.{X, value_of, slot_by}
use Rattle.col_model.specs.CastTable.{CastRule, rising}
use Rattle.col_model.specs.ColumnCalls.{cast_slot}
use Rattle.col_model.specs.UnitChange.{datetime_in_unit, duration_in_unit}
use Rattle.col_model.specs.UnitLaws.{slot_cast, clock_unit, moments, is_no_coarser, is_no_finer, ComesBack, slot_through, each_step, IsOneCast}
use Rattle.col_model.proofs.UnitLemmas.{moment_back, length_back, finer_moments, finer_lengths, coarser_moments, coarser_lengths}

-- ---- slots

-- a function that undoes another on integers undoes it on values
back_value : (f g : ℤ → Option ℤ) → ((x y : ℤ) → f x ≡ Some y → g y ≡ Some x) → (before after : Value)
    → on_slot f (Some before) ≡ Some after → on_slot g (Some after) ≡ Some before
back_value f g back (Flat (Bytes bytes)) after h = cc
back_value f g back (Nested leaves) after h = cc
back_value f g back (Flat (Whole x)) after h = go (f x) refl h
  where
    go : (y : Option ℤ) → f x ≡ y → integer_slot y ≡ Some after → on_slot g (Some after) ≡ Some (whole x)
    go None e h = cc
    go (Some y) e h =
        let is : whole y ≡ after = cc in
        rw (sym is) (ap integer_slot (back x y e))

-- two functions one after the other, on slots as on integers
two_slots : (f g h : ℤ → Option ℤ) → ((x : ℤ) → option_and_then g (f x) ≡ h x) → (slot : Option Value)
    → on_slot g (on_slot f slot) ≡ on_slot h slot
two_slots f g h two None = refl
two_slots f g h two (Some (Flat (Bytes bytes))) = refl
two_slots f g h two (Some (Nested leaves)) = refl
two_slots f g h two (Some (Flat (Whole x))) = go (f x) ∙ ap integer_slot (two x)
  where
    go : (y : Option ℤ) → on_slot g (integer_slot y) ≡ integer_slot (option_and_then g y)
    go None = refl
    go (Some y) = refl

-- ---- the rule of a cast between units, whether or not the types are one

-- a rule that is chosen on both sides of a test
either_way : (same : Bool) (rule : Option CastRule) (slot : Option Value)
    → cast_slot (if same then rule else rule) slot ≡ cast_slot rule slot
either_way true rule slot = refl
either_way false rule slot = refl

-- a moment's slot in another unit
abbrev moment_slot : TimeUnit → TimeUnit → Option Value → Option Value
moment_slot u v slot = slot_by (datetime_in_unit u v X) slot

-- a length's slot in another unit
abbrev length_slot : TimeUnit → TimeUnit → Option Value → Option Value
length_slot u v slot = slot_by (duration_in_unit u v X) slot

cast_moments : (u v : TimeUnit) (y z : Option (List ℕ)) (slot : Option Value)
    → slot_cast (moments (u, y)) (moments (v, z)) slot ≡ moment_slot u v slot
cast_moments Nanoseconds Nanoseconds y z slot = either_way (same_zone y z) (rising X) slot
cast_moments Nanoseconds Microseconds y z slot = refl
cast_moments Nanoseconds Milliseconds y z slot = refl
cast_moments Microseconds Nanoseconds y z slot = refl
cast_moments Microseconds Microseconds y z slot = either_way (same_zone y z) (rising X) slot
cast_moments Microseconds Milliseconds y z slot = refl
cast_moments Milliseconds Nanoseconds y z slot = refl
cast_moments Milliseconds Microseconds y z slot = refl
cast_moments Milliseconds Milliseconds y z slot = either_way (same_zone y z) (rising X) slot

cast_lengths : (u v : TimeUnit) (slot : Option Value)
    → slot_cast (Duration u) (Duration v) slot ≡ length_slot u v slot
cast_lengths Nanoseconds Nanoseconds slot = refl
cast_lengths Nanoseconds Microseconds slot = refl
cast_lengths Nanoseconds Milliseconds slot = refl
cast_lengths Microseconds Nanoseconds slot = refl
cast_lengths Microseconds Microseconds slot = refl
cast_lengths Microseconds Milliseconds slot = refl
cast_lengths Milliseconds Nanoseconds slot = refl
cast_lengths Milliseconds Microseconds slot = refl
cast_lengths Milliseconds Milliseconds slot = refl

-- ---- a finer unit and back

pub moments_back : ComesBack moments clock_unit
moments_back (u, y) (v, z) before after finer h =
    cast_moments v u z y (Some after)
    ∙ back_value (λ t. value_of (datetime_in_unit u v X) t t) (λ t. value_of (datetime_in_unit v u X) t t)
    (λ t s. moment_back u v t s finer) before after (sym (cast_moments u v y z (Some before)) ∙ h)

pub lengths_back : ComesBack Duration (λ unit. unit)
lengths_back u v before after finer h =
    cast_lengths v u (Some after)
    ∙ back_value (λ t. value_of (duration_in_unit u v X) t t) (λ t. value_of (duration_in_unit v u X) t t)
    (λ t s. length_back u v t s finer) before after (sym (cast_lengths u v (Some before)) ∙ h)

-- ---- chains

-- a way of units that two steps keep
abbrev Transitive : (TimeUnit → TimeUnit → Bool) → Type 0
Transitive goes = (u v w : TimeUnit) → goes u v ≡ true → goes v w ≡ true → goes u w ≡ true

no_coarser-trans : Transitive is_no_coarser
no_coarser-trans u v w first second =
    let a : nanos_per_tick v ≤ nanos_per_tick u = leb-true _ _ first in
    let b : nanos_per_tick w ≤ nanos_per_tick v = leb-true _ _ second in
    le-leb _ _ (omega arith)

no_finer-trans : Transitive is_no_finer
no_finer-trans u v w first second =
    let a : nanos_per_tick u ≤ nanos_per_tick v = leb-true _ _ first in
    let b : nanos_per_tick v ≤ nanos_per_tick w = leb-true _ _ second in
    le-leb _ _ (omega arith)

-- two casts that go one way are one
abbrev TwoAreOne : {S : Type 0} → (S → DataType) → (S → TimeUnit) → (TimeUnit → TimeUnit → Bool) → Type 0
TwoAreOne {S} dtype unit goes =
    (a b c : S) (slot : Option Value) → goes (unit a) (unit b) ≡ true → goes (unit b) (unit c) ≡ true
    → slot_cast (dtype b) (dtype c) (slot_cast (dtype a) (dtype b) slot) ≡ slot_cast (dtype a) (dtype c) slot

one_cast : {S : Type 0} (dtype : S → DataType) (unit : S → TimeUnit) (goes : TimeUnit → TimeUnit → Bool)
    → Transitive goes → TwoAreOne dtype unit goes → IsOneCast dtype unit goes
one_cast dtype unit goes trans two from to [] slot steps = refl
one_cast dtype unit goes trans two from to (next ∷ stops) slot steps =
    let first = and_parts (goes (unit from) (unit to)) (each_step unit goes to (next ∷ stops)) steps in
    let second = and_parts (goes (unit to) (unit next)) (each_step unit goes next stops) first.1 in
    let both = and_from _ _ (trans (unit from) (unit to) (unit next) first.0 second.0) second.1 in
    ap (slot_through dtype next stops) (two from to next slot first.0 second.0)
    ∙ one_cast dtype unit goes trans two from next stops slot both

-- two moments' casts are one, where their formulas are
two_moments : (u v w : TimeUnit) (x y z : Option (List ℕ)) (slot : Option Value)
    → moment_slot v w (moment_slot u v slot) ≡ moment_slot u w slot
    → slot_cast (moments (v, y)) (moments (w, z)) (slot_cast (moments (u, x)) (moments (v, y)) slot)
    ≡ slot_cast (moments (u, x)) (moments (w, z)) slot
two_moments u v w x y z slot one =
    ap (slot_cast (moments (v, y)) (moments (w, z))) (cast_moments u v x y slot)
    ∙ cast_moments v w y z (moment_slot u v slot) ∙ one ∙ sym (cast_moments u w x z slot)

two_lengths : (u v w : TimeUnit) (slot : Option Value)
    → length_slot v w (length_slot u v slot) ≡ length_slot u w slot
    → slot_cast (Duration v) (Duration w) (slot_cast (Duration u) (Duration v) slot)
    ≡ slot_cast (Duration u) (Duration w) slot
two_lengths u v w slot one =
    ap (slot_cast (Duration v) (Duration w)) (cast_lengths u v slot)
    ∙ cast_lengths v w (length_slot u v slot) ∙ one ∙ sym (cast_lengths u w slot)

two_finer_moments : TwoAreOne moments clock_unit is_no_coarser
two_finer_moments (u, x) (v, y) (w, z) slot first second =
    two_moments u v w x y z slot (two_slots _ _ _ (λ t. finer_moments u v w t first second) slot)

two_finer_lengths : TwoAreOne Duration (λ unit. unit) is_no_coarser
two_finer_lengths u v w slot first second =
    two_lengths u v w slot (two_slots _ _ _ (λ t. finer_lengths u v w t first second) slot)

two_coarser_moments : TwoAreOne moments clock_unit is_no_finer
two_coarser_moments (u, x) (v, y) (w, z) slot first second =
    two_moments u v w x y z slot (two_slots _ _ _ (λ t. coarser_moments u v w t first second) slot)

two_coarser_lengths : TwoAreOne Duration (λ unit. unit) is_no_finer
two_coarser_lengths u v w slot first second =
    two_lengths u v w slot (two_slots _ _ _ (λ t. coarser_lengths u v w t first second) slot)

pub finer_moments_one : IsOneCast moments clock_unit is_no_coarser
finer_moments_one = one_cast moments clock_unit is_no_coarser no_coarser-trans two_finer_moments

pub finer_lengths_one : IsOneCast Duration (λ unit. unit) is_no_coarser
finer_lengths_one = one_cast Duration (λ unit. unit) is_no_coarser no_coarser-trans two_finer_lengths

pub coarser_moments_one : IsOneCast moments clock_unit is_no_finer
coarser_moments_one = one_cast moments clock_unit is_no_finer no_finer-trans two_coarser_moments

pub coarser_lengths_one : IsOneCast Duration (λ unit. unit) is_no_finer
coarser_lengths_one = one_cast Duration (λ unit. unit) is_no_finer no_finer-trans two_coarser_lengths
