use Rattle.std.proofs.Common.{refl}
use Rattle.col_model.specs.Arithmetic.{wrapped_value}
use Rattle.col_model.proofs.laws.known_joins.Goals as goal

pub returns : goal.returns
unfolding wrapped_value
returns c = record {
  values = record {
    date_then_length = refl;
    length_then_date = refl;
    wrapped_then_null = refl;
    coarser_first = refl;
    rest = refl;
    rest_of_none = refl;
    dates_apart = refl;
    length_less_date = refl;
  };
}
