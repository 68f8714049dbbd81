-- The test of equal types holds exactly where the types have one shape.
use Rattle.std.specs.Prelude.{◌≡◌, ℕ, true, ◌&&◌, nat_eq, List, Option, Some, None, refl}
use Rattle.std.specs.Bool.{Decides}
use Rattle.std.proofs.Common.{ap, ◌∙◌, sym}
use Rattle.std.proofs.lemmas.Bool.{eqb-true, eq-eqb, and_parts, and_from}
use Rattle.std.proofs.lemmas.Slice.Eq.{bytes_eq-Decides}
use Rattle.col_types.specs.declared.time_unit.TimeUnit.{TimeUnit}
use Rattle.col_types.specs.declared.time_unit.TimeUnit.TheVariants.{Nanoseconds, Microseconds, Milliseconds}
use Rattle.col_types.specs.declared.data_type.DataType.{DataType, Int8, Int16, Int32, Int64, Int128, UInt8, UInt16, UInt32, UInt64, Boolean, String, Binary, Date, Datetime, Duration, Time, Decimal, List', Array'}
use Rattle.col_types.specs.DataType.{shape_of, leaf_of, with_leaf, same_type, same_unit, same_zone, same_number}

-- Equal lengths of a tick are of one unit.
equal_units : (u v : TimeUnit) → same_unit u v ≡ true → u ≡ v
equal_units Nanoseconds Nanoseconds e = refl
equal_units Microseconds Microseconds e = refl
equal_units Milliseconds Milliseconds e = refl
equal_units u v e = cc

equal_zones : (y z : Option (List ℕ)) → same_zone y z ≡ true → y ≡ z
equal_zones None None e = refl
equal_zones (Some y) (Some z) e = ap Some ((bytes_eq-Decides y z).0 e)
equal_zones y z e = cc

equal_numbers : (m n : Option ℕ) → same_number m n ≡ true → m ≡ n
equal_numbers None None e = refl
equal_numbers (Some m) (Some n) e = ap Some (eqb-true m n e)
equal_numbers m n e = cc

unit_itself : (u : TimeUnit) → same_unit u u ≡ true
unit_itself Nanoseconds = refl
unit_itself Microseconds = refl
unit_itself Milliseconds = refl

zone_itself : (z : Option (List ℕ)) → same_zone z z ≡ true
zone_itself None = refl
zone_itself (Some z) = (bytes_eq-Decides z z).1 refl

number_itself : (n : Option ℕ) → same_number n n ≡ true
number_itself None = refl
number_itself (Some n) = eq-eqb n n refl

-- Types that the test takes for equal have one shape.
pub same_type-shape_of : (a b : DataType) → same_type a b ≡ true → shape_of a ≡ shape_of b
same_type-shape_of Int8 Int8 e = refl
same_type-shape_of Int16 Int16 e = refl
same_type-shape_of Int32 Int32 e = refl
same_type-shape_of Int64 Int64 e = refl
same_type-shape_of Int128 Int128 e = refl
same_type-shape_of UInt8 UInt8 e = refl
same_type-shape_of UInt16 UInt16 e = refl
same_type-shape_of UInt32 UInt32 e = refl
same_type-shape_of UInt64 UInt64 e = refl
same_type-shape_of Boolean Boolean e = refl
same_type-shape_of String String e = refl
same_type-shape_of Binary Binary e = refl
same_type-shape_of Date Date e = refl
same_type-shape_of Time Time e = refl
same_type-shape_of (Datetime u y) (Datetime v z) e =
    let p = and_parts (same_unit u v) (same_zone y z) e in
    rw (equal_units u v p.0, equal_zones y z p.1) refl
same_type-shape_of (Duration u) (Duration v) e = ap Duration (equal_units u v e)
same_type-shape_of (Decimal p s) (Decimal q t) e =
    let h = and_parts (same_number p q) (same_number s t) e in
    rw (equal_numbers p q h.0, equal_numbers s t h.1) refl
same_type-shape_of (List' p a) (List' q b) e = rw (same_type-shape_of a b e) refl
same_type-shape_of (Array' p a m) (Array' q b n) e =
    let h = and_parts (nat_eq m n) (same_type a b) e in
    rw (eqb-true m n h.0, same_type-shape_of a b h.1) refl
same_type-shape_of a b e = cc

-- The test takes each type for equal to itself.
pub same_type-itself : (a : DataType) → same_type a a ≡ true
same_type-itself Int8 = refl
same_type-itself Int16 = refl
same_type-itself Int32 = refl
same_type-itself Int64 = refl
same_type-itself Int128 = refl
same_type-itself UInt8 = refl
same_type-itself UInt16 = refl
same_type-itself UInt32 = refl
same_type-itself UInt64 = refl
same_type-itself Boolean = refl
same_type-itself String = refl
same_type-itself Binary = refl
same_type-itself Date = refl
same_type-itself Time = refl
same_type-itself (Datetime u z) =
    and_from (same_unit u u) (same_zone z z) (unit_itself u) (zone_itself z)
same_type-itself (Duration u) = unit_itself u
same_type-itself (Decimal p s) =
    and_from (same_number p p) (same_number s s) (number_itself p) (number_itself s)
same_type-itself (List' p a) = same_type-itself a
same_type-itself (Array' p a m) =
    and_from (nat_eq m m) (same_type a a) (eq-eqb m m refl) (same_type-itself a)

-- The test does not see the places of boxes.
pub same_type-of_shapes : (a b : DataType) → same_type (shape_of a) (shape_of b) ≡ same_type a b
same_type-of_shapes Int8 Int8 = refl
same_type-of_shapes Int16 Int16 = refl
same_type-of_shapes Int32 Int32 = refl
same_type-of_shapes Int64 Int64 = refl
same_type-of_shapes Int128 Int128 = refl
same_type-of_shapes UInt8 UInt8 = refl
same_type-of_shapes UInt16 UInt16 = refl
same_type-of_shapes UInt32 UInt32 = refl
same_type-of_shapes UInt64 UInt64 = refl
same_type-of_shapes Boolean Boolean = refl
same_type-of_shapes String String = refl
same_type-of_shapes Binary Binary = refl
same_type-of_shapes Date Date = refl
same_type-of_shapes Time Time = refl
same_type-of_shapes (Datetime u y) (Datetime v z) = refl
same_type-of_shapes (Duration u) (Duration v) = refl
same_type-of_shapes (Decimal p s) (Decimal q t) = refl
same_type-of_shapes (List' p a) (List' q b) = same_type-of_shapes a b
same_type-of_shapes (Array' p a m) (Array' q b n) =
    ap (λ t. nat_eq m n && t) (same_type-of_shapes a b)
same_type-of_shapes a b = refl

-- The test holds exactly where the shapes are one.
pub same_type-Decides : (a b : DataType) → Decides (same_type a b) (shape_of a ≡ shape_of b)
same_type-Decides a b =
    let back : shape_of a ≡ shape_of b → same_type (shape_of a) (shape_of b) ≡ true =
    λ e. ap (λ s. same_type s (shape_of b)) e ∙ same_type-itself (shape_of b) in
    (same_type-shape_of a b, λ e. sym (same_type-of_shapes a b) ∙ back e)

-- A type is its own nesting over its own leaf.
pub own_leaf : (a : DataType) → with_leaf a (leaf_of a) ≡ a
own_leaf (List' p a) = ap (List' p) (own_leaf a)
own_leaf (Array' p a m) = ap (λ leaf. Array' p leaf m) (own_leaf a)
own_leaf Int8 = refl
own_leaf Int16 = refl
own_leaf Int32 = refl
own_leaf Int64 = refl
own_leaf Int128 = refl
own_leaf UInt8 = refl
own_leaf UInt16 = refl
own_leaf UInt32 = refl
own_leaf UInt64 = refl
own_leaf Boolean = refl
own_leaf String = refl
own_leaf Binary = refl
own_leaf Date = refl
own_leaf Time = refl
own_leaf (Datetime u z) = refl
own_leaf (Duration u) = refl
own_leaf (Decimal p s) = refl
