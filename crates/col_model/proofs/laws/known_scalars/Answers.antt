use Rattle.std.proofs.Common.{refl}
use Rattle.col_model.specs.Arithmetic.{wrapped_value}
use Rattle.col_model.proofs.laws.known_scalars.Goals as goal

pub returns : goal.returns
unfolding wrapped_value
returns c = record {
  values = record {
    down = refl;
    truncated = refl;
    rest = refl;
    by_zero = refl;
    least_turned = refl;
    date_wraps = refl;
    byte_wraps = refl;
    past_the_day = refl;
    before_the_day = refl;
    no_boolean = refl;
    from_left = refl;
    left_by_zero = refl;
    decimal_dtype = refl;
    text_dtype = refl;
    day_in_word = refl;
    day_past_word = refl;
  };
}
