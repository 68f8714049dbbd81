use Rattle.std.proofs.Common.{refl}
use Rattle.col_model.specs.Arithmetic.{wrapped_value}
use Rattle.col_model.proofs.laws.known_numbers.Goals as goal

pub returns : goal.returns
unfolding wrapped_value
returns c = record {
  values = record { sum_wraps = refl; in_the_wider = refl; truth_counts = refl; truths = refl; no_difference = refl; no_supertype = refl; down = refl; least_turned = refl; by_zero = refl; rest = refl; rest_of_none = refl; length_times = refl; times_length = refl; past_ticks = refl; part = refl; no_part_of_an_integer = refl; no_sum = refl };
}
