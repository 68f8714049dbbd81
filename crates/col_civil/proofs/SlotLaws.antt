-- Words as the integers that they read as.
use Rattle.std.specs.Prelude.{◌≡◌, ℤ, FitsSigned}
use Rattle.std.specs.Int.{Width}
use Rattle.col_kernel.specs.WordLaws.{wrapped-held}
use Rattle.col_model.specs.Arithmetic.{Signed, wrapped_value}

pub wraps_signed : (w : Width) (x : ℤ) → FitsSigned w x → wrapped_value (Signed w) x ≡ x
wraps_signed w x fits = wrapped-held (Signed w) x fits

pub ruleset readings = (wraps_signed)
