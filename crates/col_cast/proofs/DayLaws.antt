-- The day of a moment, in the word of dates.
use Rattle.std.proofs.Common.{◌≡◌, ℤ, refl}
use Rattle.std.specs.Int.{w32}
use Rattle.col_types.specs.TimeUnit.{ticks_per_day}
use Rattle.col_types.specs.declared.time_unit.TimeUnit.{TimeUnit}
use Rattle.col_types.specs.declared.cast_options.CastOptions.{CastOptions}
use Rattle.col_types.specs.declared.cast_options.CastOptions.TheVariants.{Strict, NonStrict, Overflowing}
use Rattle.col_model.specs.Arithmetic.{Signed, floor_by}
use Rattle.col_model.specs.Formula.{X, value_of}
use Rattle.col_model.specs.CastTable.{day_of, narrowed}

pub day_value : (options : CastOptions) (unit : TimeUnit) (x : ℤ)
    → value_of (narrowed options (Signed w32) X) (floor_by x (ticks_per_day unit)) (floor_by x (ticks_per_day unit)) ≡ value_of (day_of options unit) x x
day_value Strict unit x = refl
day_value NonStrict unit x = refl
day_value Overflowing unit x = refl

pub ruleset day_laws = (day_value)
