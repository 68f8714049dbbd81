-- From the least to the greatest integer of some slots: how it is found, and what it tells.
use Rattle.std.proofs.Common.{◌≡◌, ℤ, ◌≤ℤ◌, ◌<ℤ◌, ℕ, List, [], ◌∷◌, Bool, true, false, ◌&&◌}
use Rattle.std.proofs.Common.{Option, Some, None, refl, sym, ap, ◌∙◌, arith, fold}
use Rattle.std.specs.Prelude.{int_lt, int_le, slice_get, if◌then◌else◌}
use Rattle.std.specs.List.{list_all, reduce, All}
use Rattle.std.specs.Int.{int_min, int_max}
use Rattle.std.proofs.lemmas.Bool.{and_parts, and_from, false≢true}
use Rattle.std.proofs.lemmas.Int.{ints, clamps, by_lt_z}
use Rattle.col_types.specs.declared.data_type.DataType.{DataType}
use Rattle.col_model.specs.Arithmetic.{Interval, is_within, is_inside}
use Rattle.col_model.specs.Value.{Value, Leaf, Flat, Nested, Whole, Bytes}
use Rattle.col_model.specs.Column.{Column, IsValidColumn, is_slot_of, values_of, is_value_in}
use Rattle.col_model.specs.Words.{integers_of, lesser, greater}
use Rattle.col_model.proofs.WithinLemmas.{IsWithin, is_within-true, within_from, le_true}
use Rattle.col_expr.specs.Plan.{is_slot_within, is_column_within}
use Rattle.col_expr.specs.FoundPlan.{widened_by, spanned_by}
use Rattle.col_expr.specs.Span.{from_to, is_span_within}
use Rattle.col_expr.proofs.FormulaLemmas.{column_valid}

-- ---- from the least to the greatest integer

-- the greater of two integers, by either test
int_max-greater : (x y : ℤ) → int_max x y ≡ greater x y
int_max-greater x y = by_lt_z x y less not_less
  where
    less : x <ℤ y → int_max x y ≡ greater x y
    less h =
        let first : int_lt y x ≡ false = grind (arith, ints) in
        let second : int_lt x y ≡ true = grind (arith, ints) in
        ap (λ b. if b then x else y) first ∙ sym (ap (λ b. if b then y else x) second)

    not_less : y ≤ℤ x → int_max x y ≡ greater x y
    not_less h =
        let second : int_lt x y ≡ false = grind (arith, ints) in
        go (int_lt y x) refl ∙ sym (ap (λ b. if b then y else x) second)
      where
        go : (b : Bool) → int_lt y x ≡ b → (if b then x else y) ≡ x
        go true e = refl
        go false e = omega (arith, ints)

-- an interval that is widened by slots, end by end
widened-folded : (slots : List (Option Value)) (low high : ℤ) →
    widened_by (Some (record { low = low; high = high })) slots
    ≡ Some (record {
      low = fold lesser low (integers_of slots);
      high = fold greater high (integers_of slots);
    })
widened-folded [] low high = refl
widened-folded (None ∷ slots) low high = widened-folded slots low high
widened-folded (Some (Flat (Whole x)) ∷ slots) low high =
    ap (λ h. widened_by (Some (record { low = int_min low x; high = h })) slots)
    (int_max-greater high x)
    ∙ widened-folded slots (lesser low x) (greater high x)
widened-folded (Some (Flat (Bytes b)) ∷ slots) low high = widened-folded slots low high
widened-folded (Some (Nested leaves) ∷ slots) low high = widened-folded slots low high

-- the span of slots has their least and their greatest integer as its ends
pub from_to-reduced : (slots : List (Option Value)) →
    from_to (reduce lesser (integers_of slots)) (reduce greater (integers_of slots))
    ≡ widened_by None slots
from_to-reduced [] = refl
from_to-reduced (None ∷ slots) = from_to-reduced slots
from_to-reduced (Some (Flat (Whole x)) ∷ slots) = sym (widened-folded slots x x)
from_to-reduced (Some (Flat (Bytes b)) ∷ slots) = from_to-reduced slots
from_to-reduced (Some (Nested leaves) ∷ slots) = from_to-reduced slots

-- ---- whether the slots of a column lie in an interval

both_ways : (a b : Bool) → (a ≡ true → b ≡ true) → (b ≡ true → a ≡ true) → a ≡ b
both_ways true b f g = sym (f refl)
both_ways false true f g = g refl
both_ways false false f g = refl

and-true : (b : Bool) → b ≡ (b && true)
and-true true = refl
and-true false = refl

and-same : (b : Bool) → (b && b) ≡ b
and-same true = refl
and-same false = refl

and-assoc : (a b c : Bool) → ((a && b) && c) ≡ (a && (b && c))
and-assoc true b c = refl
and-assoc false b c = refl

-- an interval that is widened by an integer lies in another where both do
inside-widened : (range p : Interval) (x : ℤ) → p.low ≤ℤ p.high →
    is_inside range (record { low = int_min p.low x; high = int_max p.high x })
    ≡ (is_inside range p && is_within range x)
inside-widened range p x ordered = both_ways _ _ parts whole
  where
    parts : is_inside range (record { low = int_min p.low x; high = int_max p.high x }) ≡ true →
        (is_inside range p && is_within range x) ≡ true
    parts h =
        let ends =
        and_parts (is_within range (int_min p.low x)) (is_within range (int_max p.high x)) h in
        let l = within_from range (int_min p.low x) ends.0 in
        let g = within_from range (int_max p.high x) ends.1 in
        let low : IsWithin range p.low = record {
          low = omega (arith, ints, clamps, l.low);
          high = omega (arith, ints, clamps, g.high);
        } in
        let high : IsWithin range p.high = record {
          low = omega (arith, ints, clamps, l.low);
          high = omega (arith, ints, clamps, g.high);
        } in
        let at : IsWithin range x = record {
          low = omega (arith, ints, clamps, l.low);
          high = omega (arith, ints, clamps, g.high);
        } in
        and_from _ _
        (and_from _ _ (is_within-true range p.low low) (is_within-true range p.high high))
        (is_within-true range x at)

    whole : (is_inside range p && is_within range x) ≡ true →
        is_inside range (record { low = int_min p.low x; high = int_max p.high x }) ≡ true
    whole h =
        let all = and_parts (is_inside range p) (is_within range x) h in
        let ends = and_parts (is_within range p.low) (is_within range p.high) all.0 in
        let l = within_from range p.low ends.0 in
        let g = within_from range p.high ends.1 in
        let at = within_from range x all.1 in
        let low : IsWithin range (int_min p.low x) = record {
          low = omega (arith, ints, clamps, l.low, at.low);
          high = omega (arith, ints, clamps, l.high, at.high);
        } in
        let high : IsWithin range (int_max p.high x) = record {
          low = omega (arith, ints, clamps, g.low, at.low);
          high = omega (arith, ints, clamps, g.high, at.high);
        } in
        and_from _ _ (is_within-true range (int_min p.low x) low)
        (is_within-true range (int_max p.high x) high)

-- a column of a type with values has no bytes and no lists
no_bytes : {P : Type 0} (o : Option Interval) (b : List ℕ) →
    is_value_in o (Flat (Bytes b)) ≡ true → P
no_bytes None b h = absurd (false≢true h)
no_bytes (Some range) b h = absurd (false≢true h)

no_leaves : {P : Type 0} (o : Option Interval) (leaves : List (Option Leaf)) →
    is_value_in o (Nested leaves) ≡ true → P
no_leaves None leaves h = absurd (false≢true h)
no_leaves (Some range) leaves h = absurd (false≢true h)

-- what is known of the first slot and of the others
slots_parts : (dtype : DataType) (slot : Option Value) (slots : List (Option Value)) →
    list_all (is_slot_of dtype) (slot ∷ slots) ≡ true →
    (is_slot_of dtype slot ≡ true) × (list_all (is_slot_of dtype) slots ≡ true)
slots_parts dtype slot slots h =
    and_parts (is_slot_of dtype slot) (list_all (is_slot_of dtype) slots) h

within-widened : (dtype : DataType) (range p : Interval) (slots : List (Option Value)) →
    p.low ≤ℤ p.high → list_all (is_slot_of dtype) slots ≡ true →
    is_span_within range (widened_by (Some p) slots)
    ≡ (is_inside range p && list_all (is_slot_within range) slots)
within-widened dtype range p [] ordered valid = and-true (is_inside range p)
within-widened dtype range p (None ∷ slots) ordered valid =
    within-widened dtype range p slots ordered valid
within-widened dtype range p (Some (Flat (Whole x)) ∷ slots) ordered valid =
    within-widened dtype range (record { low = int_min p.low x; high = int_max p.high x }) slots
    (omega (arith, ints, clamps)) (slots_parts dtype (Some (Flat (Whole x))) slots valid).1
    ∙ ap (λ b. b && list_all (is_slot_within range) slots) (inside-widened range p x ordered)
    ∙ and-assoc (is_inside range p) (is_within range x) (list_all (is_slot_within range) slots)
within-widened dtype range p (Some (Flat (Bytes b)) ∷ slots) ordered valid =
    no_bytes (values_of dtype) b (slots_parts dtype (Some (Flat (Bytes b))) slots valid).0
within-widened dtype range p (Some (Nested leaves) ∷ slots) ordered valid =
    no_leaves (values_of dtype) leaves (slots_parts dtype (Some (Nested leaves)) slots valid).0

-- slots of a type lie in an interval exactly where their span does
pub within-spanned : (dtype : DataType) (range : Interval) (slots : List (Option Value)) →
    list_all (is_slot_of dtype) slots ≡ true →
    is_span_within range (widened_by None slots) ≡ list_all (is_slot_within range) slots
within-spanned dtype range [] valid = refl
within-spanned dtype range (None ∷ slots) valid = within-spanned dtype range slots valid
within-spanned dtype range (Some (Flat (Whole x)) ∷ slots) valid =
    within-widened dtype range (record { low = x; high = x }) slots (omega (arith, ints))
    (slots_parts dtype (Some (Flat (Whole x))) slots valid).1
    ∙ ap (λ b. b && list_all (is_slot_within range) slots) (and-same (is_within range x))
within-spanned dtype range (Some (Flat (Bytes b)) ∷ slots) valid =
    no_bytes (values_of dtype) b (slots_parts dtype (Some (Flat (Bytes b))) slots valid).0
within-spanned dtype range (Some (Nested leaves) ∷ slots) valid =
    no_leaves (values_of dtype) leaves (slots_parts dtype (Some (Nested leaves)) slots valid).0

-- ---- the span of an input

-- an interval with an integer lies in itself
pub inside_itself : (range : Interval) → int_le range.low range.high ≡ true →
    is_inside range range ≡ true
inside_itself range h =
    let least : int_le range.low range.low ≡ true =
    le_true range.low range.low (omega (arith, ints)) in
    let greatest : int_le range.high range.high ≡ true =
    le_true range.high range.high (omega (arith, ints)) in
    and_from _ _ (and_from _ _ least h) (and_from _ _ h greatest)

-- the slots of a valid column lie in their span
pub column_holds : (inputs : List Column) → All IsValidColumn inputs → (index : ℕ)
    (range : Interval) → spanned_by (slice_get inputs index) ≡ Some range →
    int_le range.low range.high ≡ true → is_column_within range (slice_get inputs index) ≡ true
column_holds inputs valid index range e ordered = go (slice_get inputs index) refl e
  where
    go : (o : Option Column) → slice_get inputs index ≡ o → spanned_by o ≡ Some range →
        is_column_within range o ≡ true
    go None at e = cc
    go (Some column) at e =
        sym (within-spanned column.dtype range column.slots
        (column_valid inputs index column valid at).values)
        ∙ ap (is_span_within range) e ∙ inside_itself range ordered
