-- An operand's interval is the same wherever the operand stands.
use Rattle.std.proofs.Common.{◌≡◌, ◌<◌, ◌+ℤ◌, ◌-ℤ◌, ◌&&◌, ℕ, pos, Bool, true, false, Some, None, if◌then◌else◌, refl, ap, ◌∙◌, arith}
use Rattle.std.proofs.lemmas.Int.{ints}
use Rattle.col_model.specs.Arithmetic.{Interval, is_within}
use Rattle.col_model.specs.Formula.{X, Y, interval_of, rest_interval}
use Rattle.col_model.specs.IntervalRoom.{only}
use Rattle.col_model.specs.UnitChange.{datetime_by, duration_by, wrapped_datetime_by, wrapped_duration_by}
use Rattle.col_model.specs.declared.ticks.UnitChange.{UnitChange}
use Rattle.col_model.specs.declared.ticks.UnitChange.TheVariants.{Finer, Same, Coarser}
use Rattle.std.specs.Prelude.{int_le, int_lt}

pub moment_left : (change : UnitChange) (p q : Interval) → interval_of (datetime_by change X) p q ≡ interval_of (datetime_by change X) p p
moment_left (Finer factor) p q = refl
moment_left Same p q = refl
moment_left (Coarser factor) p q = refl

pub moment_right : (change : UnitChange) (p q : Interval) → interval_of (datetime_by change Y) p q ≡ interval_of (datetime_by change X) q q
moment_right (Finer factor) p q = refl
moment_right Same p q = refl
moment_right (Coarser factor) p q = refl

pub length_left : (change : UnitChange) (p q : Interval) → interval_of (duration_by change X) p q ≡ interval_of (duration_by change X) p p
length_left (Finer factor) p q = refl
length_left Same p q = refl
length_left (Coarser factor) p q = refl

pub length_right : (change : UnitChange) (p q : Interval) → interval_of (duration_by change Y) p q ≡ interval_of (duration_by change X) q q
length_right (Finer factor) p q = refl
length_right Same p q = refl
length_right (Coarser factor) p q = refl

-- what may wrap has the interval of what may be null
pub wrapped_moment : (change : UnitChange) (p : Interval) → interval_of (wrapped_datetime_by change X) p p ≡ interval_of (datetime_by change X) p p
wrapped_moment (Finer factor) p = refl
wrapped_moment Same p = refl
wrapped_moment (Coarser factor) p = refl

pub wrapped_length : (change : UnitChange) (p : Interval) → interval_of (wrapped_duration_by change X) p p ≡ interval_of (duration_by change X) p p
wrapped_length (Finer factor) p = refl
wrapped_length Same p = refl
wrapped_length (Coarser factor) p = refl

-- the rest by a positive number
pub rest_of_day : (p : Interval) (d : ℕ) → 0 < d →
    rest_interval p (only (pos d)) ≡ Some (record { low = pos 0; high = pos d -ℤ pos 1 })
rest_of_day p d h =
    let none : is_within (only (pos d)) (pos 0) ≡ false = by_parts (int_le (pos d) (pos 0)) (int_le (pos 0) (pos d)) (grind (arith, ints)) in
    let above : int_lt (pos 0) (pos d) ≡ true = grind (arith, ints) in
    ap (λ b. if b then None else if int_lt (pos 0) (pos d) then Some (record { low = pos 0; high = pos d -ℤ pos 1 }) else Some (record { low = pos d +ℤ pos 1; high = pos 0 })) none
    ∙ ap (λ b. if b then Some (record { low = pos 0; high = pos d -ℤ pos 1 }) else Some (record { low = pos d +ℤ pos 1; high = pos 0 })) above
  where
    by_parts : (a b : Bool) → a ≡ false → (a && b) ≡ false
    by_parts false b e = refl
    by_parts true b e = cc
