use Rattle.std.proofs.Common.{refl}
use Rattle.col_model.specs.Arithmetic.{wrapped_value}
use Rattle.col_model.proofs.laws.known_word_casts.Goals as goal

pub returns : goal.returns
unfolding wrapped_value
returns c = record {
  values = record { narrowed = refl; wrapped = refl; unsigned = refl; day = refl; day_wrapped = refl; time = refl; time_wrapped = refl; of_a_time = refl; truth = refl; untruth = refl; of_a_truth = refl; truth_of_a_day = refl };
}
