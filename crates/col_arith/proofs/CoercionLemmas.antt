-- To coerced types casts lead, and they are never refused.
use Rattle.std.specs.Prelude.{◌≡◌, ◌&&◌, ℕ, Bool, true, false, List, Option, Some, None, is_some, Ok, option_map}
use Rattle.std.proofs.Common.{refl, cond, sym, subst}
use Rattle.std.proofs.lemmas.Bool.{and_parts}
use Rattle.col_types.specs.TimeUnit.{coarser_unit}
use Rattle.col_types.specs.DataType.{same_unit, same_zone}
use Rattle.col_types.specs.declared.time_unit.TimeUnit.{TimeUnit}
use Rattle.col_types.specs.declared.data_type.DataType.{DataType, Date, Datetime, Duration, Time, Int64}
use Rattle.col_types.specs.declared.cast_options.CastOptions.TheVariants.{NonStrict}
use Rattle.col_model.specs.Column.{Column, is_built_type}
use Rattle.col_model.specs.CastTable.{CastRule, cast_rule}
use Rattle.col_model.specs.ColumnCalls.{cast_of, unless_refused, cast_refusal}
use Rattle.col_model.proofs.RuleLemmas.{by_built}
use Rattle.col_series.proofs.TypeLemmas.{built_good, built_settled}
use Rattle.col_arith.specs.Coercion.{CanCast, cast_to, coerced_types, both}

-- a cast to such a type is not refused
pub cast_given : (column : Column) (target : DataType) → CanCast column.dtype target → cast_of column target NonStrict ≡ Ok (cast_to column target)
cast_given column target can =
    rw (built_settled column.dtype target can.built) (go (cast_rule column.dtype target NonStrict) can.listed)
  where
    go : (rule : Option CastRule) → is_some rule ≡ true
        → unless_refused (cast_refusal column.dtype target NonStrict rule column.slots) (cast_to column target) ≡ Ok (cast_to column target)
    go None h = cc
    go (Some rule) h = rw (built_good target can.built) refl

-- the same type or another, a rule is there
either : (same : Bool) (first second : CastRule) → is_some (cond same (Some first) (Some second)) ≡ true
either true first second = refl
either false first second = refl

-- where there are types, a cast leads to each
abbrev CanCastBoth : DataType → DataType → Option (DataType × DataType) → Type 0
CanCastBoth left right None = Unit {0}
CanCastBoth left right (Some types) = CanCast left types.0 × CanCast right types.1

abbrev IsCoercible : DataType → DataType → Type 0
IsCoercible left right = is_built_type left ≡ true → is_built_type right ≡ true → CanCastBoth left right (coerced_types left right)

-- what holds of each type of which columns exist
by_type : (P : DataType → Type 0) → P Date → ((unit : TimeUnit) (zone : Option (List ℕ)) → P (Datetime unit zone)) → ((unit : TimeUnit) → P (Duration unit)) → P Time → P Int64
    → (dtype : DataType) → is_built_type dtype ≡ true → P dtype
by_type P date moment length time number dtype h = by_built P date moment length time number dtype (and_parts _ _ h).0

date_coercible : (right : DataType) → is_built_type right ≡ true → IsCoercible Date right
date_coercible = by_type (IsCoercible Date)
    (λ l r. (record { built = refl; listed = refl }, record { built = refl; listed = refl }))
    (λ unit zone l r. (record { built = r; listed = refl }, record { built = r; listed = either _ _ _ }))
    (λ unit l r. (record { built = refl; listed = refl }, record { built = refl; listed = either _ _ _ }))
    (λ l r. tt) (λ l r. tt)

datetimes_coercible : (u v : TimeUnit) (y z : Option (List ℕ)) → IsCoercible (Datetime u y) (Datetime v z)
datetimes_coercible u v y z l r = go (same_unit u v) (same_zone y z)
  where
    go : (units zones : Bool) → CanCastBoth (Datetime u y) (Datetime v z)
        (option_map both (cond (units && zones) (Some (Datetime u y)) (cond zones (Some (Datetime (coarser_unit u v) y)) None)))
    go true true = (record { built = l; listed = either _ _ _ }, record { built = l; listed = either _ _ _ })
    go false true = (record { built = l; listed = either _ _ _ }, record { built = l; listed = either _ _ _ })
    go true false = tt
    go false false = tt

datetime_coercible : (u : TimeUnit) (y : Option (List ℕ)) (right : DataType) → is_built_type right ≡ true → IsCoercible (Datetime u y) right
datetime_coercible u y = by_type (IsCoercible (Datetime u y))
    (λ l r. (record { built = l; listed = either _ _ _ }, record { built = l; listed = refl }))
    (λ unit zone. datetimes_coercible u unit y zone)
    (λ unit l r. (record { built = l; listed = either _ _ _ }, record { built = refl; listed = either _ _ _ }))
    (λ l r. tt) (λ l r. tt)

duration_coercible : (u : TimeUnit) (right : DataType) → is_built_type right ≡ true → IsCoercible (Duration u) right
duration_coercible u = by_type (IsCoercible (Duration u))
    (λ l r. (record { built = refl; listed = either _ _ _ }, record { built = refl; listed = refl }))
    (λ unit zone l r. (record { built = refl; listed = either _ _ _ }, record { built = r; listed = either _ _ _ }))
    (λ unit l r. (record { built = refl; listed = either _ _ _ }, record { built = refl; listed = either _ _ _ }))
    (λ l r. tt) (λ l r. tt)

time_coercible : (right : DataType) → is_built_type right ≡ true → IsCoercible Time right
time_coercible = by_type (IsCoercible Time)
    (λ l r. tt) (λ unit zone l r. tt) (λ unit l r. tt)
    (λ l r. (record { built = refl; listed = refl }, record { built = refl; listed = refl })) (λ l r. tt)

int64_coercible : (right : DataType) → is_built_type right ≡ true → IsCoercible Int64 right
int64_coercible = by_type (IsCoercible Int64)
    (λ l r. tt) (λ unit zone l r. tt) (λ unit l r. tt) (λ l r. tt)
    (λ l r. (record { built = refl; listed = refl }, record { built = refl; listed = refl }))

coercible : (left right : DataType) → is_built_type left ≡ true → is_built_type right ≡ true → IsCoercible left right
coercible left right l = by_type (λ left. is_built_type right ≡ true → IsCoercible left right)
    (date_coercible right) (λ unit zone. datetime_coercible unit zone right) (λ unit. duration_coercible unit right) (time_coercible right)
    (int64_coercible right) left l

pub coerced_castable : (left right first second : DataType) → is_built_type left ≡ true → is_built_type right ≡ true
    → Some (first, second) ≡ coerced_types left right → CanCast left first × CanCast right second
coerced_castable left right first second l r e =
    subst (λ (types : Option (DataType × DataType)). CanCastBoth left right types) (sym e) (coercible left right l r l r)
