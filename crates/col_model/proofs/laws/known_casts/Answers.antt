use Rattle.std.proofs.Common.{refl}
use Rattle.col_model.specs.Arithmetic.{wrapped_value}
use Rattle.col_model.proofs.laws.known_casts.Goals as goal

pub returns : goal.returns
unfolding wrapped_value
returns c = record {
  values = record {
    day_before = refl;
    day_past_word = refl;
    day_wrapped = refl;
    time_before = refl;
    last_midnight = refl;
    past_it = refl;
    time_as_length = refl;
    unlisted = refl;
  };
}
