use Rattle.std.proofs.Common.{refl}
use Rattle.col_model.specs.Arithmetic.{wrapped_value}
use Rattle.col_model.proofs.laws.known_unit_changes.Goals as goal

pub returns : goal.returns
unfolding wrapped_value
returns c = record {
  values = record {
    moment_wraps = refl;
    length_wraps = refl;
    moment_down = refl;
    length_truncated = refl;
    same_unit = refl;
    zone_kept = refl;
    no_date = refl;
  };
}
