-- The derived `==` of types is the test of equal types.
use Rattle.std.proofs.Common.{◌≡◌, ◌∙◌, ℕ, Bool, true, false, ◌&&◌, nat_eq, List, Option, Some, None, refl, ap}
use Rattle.std.specs.Option.{option_eq}
use Rattle.std.specs.Cmp.Lexicographic.{pointwise}
use Rattle.col_types.specs.declared.time_unit.TimeUnit.{TimeUnit}
use Rattle.col_types.specs.declared.time_unit.TimeUnit.TheVariants.{Nanoseconds, Microseconds, Milliseconds}
use Rattle.col_types.specs.declared.data_type.DataType.{DataType, Int8, Int16, Int32, Int64, Int128, UInt8, UInt16, UInt32, UInt64, Boolean, String, Binary, Date, Datetime, Duration, Time, Decimal, List', Array'}
use Rattle.col_types.specs.DataType.{same_type, same_unit, same_zone, same_number}
use Rattle.col_types.specs.contracts.time_unit.TimeUnitPartialEq.TheImpl.{ghosts as unit_ghosts}
use Rattle.col_types.specs.contracts.data_type.DataTypePartialEq.TheImpl.{ghosts}
use Rattle.col_types.specs.contracts.data_type.DataTypePartialEq.TheImpl.Laws.{is}

-- Two tests that hold together, in other words each.
both : {a b c d : Bool} → a ≡ b → c ≡ d → (a && c) ≡ (b && d)
both {a} {b} {c} {d} e f = ap (λ t. t && c) e ∙ ap (λ t. b && t) f

and_turned : (a b : Bool) → (a && b) ≡ (b && a)
and_turned true true = refl
and_turned true false = refl
and_turned false true = refl
and_turned false false = refl

derived_unit : (u v : TimeUnit) → unit_ghosts.eq u v ≡ same_unit u v
derived_unit Nanoseconds Nanoseconds = refl
derived_unit Microseconds Microseconds = refl
derived_unit Milliseconds Milliseconds = refl
derived_unit u v = refl

derived_zone : (y z : Option (List ℕ)) → option_eq (pointwise nat_eq) y z ≡ same_zone y z
derived_zone None None = refl
derived_zone None (Some z) = refl
derived_zone (Some y) None = refl
derived_zone (Some y) (Some z) = refl

derived_number : (m n : Option ℕ) → option_eq nat_eq m n ≡ same_number m n
derived_number None None = refl
derived_number None (Some n) = refl
derived_number (Some m) None = refl
derived_number (Some m) (Some n) = refl

-- By the derive's own equation, which is one step of its recursion.
pub derived_is : (a b : DataType) → ghosts.eq a b ≡ same_type a b
derived_is Int8 Int8 = is Int8 Int8
derived_is Int16 Int16 = is Int16 Int16
derived_is Int32 Int32 = is Int32 Int32
derived_is Int64 Int64 = is Int64 Int64
derived_is Int128 Int128 = is Int128 Int128
derived_is UInt8 UInt8 = is UInt8 UInt8
derived_is UInt16 UInt16 = is UInt16 UInt16
derived_is UInt32 UInt32 = is UInt32 UInt32
derived_is UInt64 UInt64 = is UInt64 UInt64
derived_is Boolean Boolean = is Boolean Boolean
derived_is String String = is String String
derived_is Binary Binary = is Binary Binary
derived_is Date Date = is Date Date
derived_is Time Time = is Time Time
derived_is (Datetime u y) (Datetime v z) =
    is (Datetime u y) (Datetime v z) ∙ both (derived_unit u v) (derived_zone y z)
derived_is (Duration u) (Duration v) = is (Duration u) (Duration v) ∙ derived_unit u v
derived_is (Decimal p s) (Decimal q t) =
    is (Decimal p s) (Decimal q t) ∙ both (derived_number p q) (derived_number s t)
derived_is (List' p a) (List' q b) = is (List' p a) (List' q b) ∙ derived_is a b
derived_is (Array' p a m) (Array' q b n) =
    is (Array' p a m) (Array' q b n) ∙ both (derived_is a b) refl
    ∙ and_turned (same_type a b) (nat_eq m n)
derived_is a b = is a b
