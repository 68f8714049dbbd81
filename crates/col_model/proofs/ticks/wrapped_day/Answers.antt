use Rattle.std.proofs.Common.{◌∙◌}
use Rattle.std.specs.Int.{w32, w64}
use Rattle.std.proofs.lemmas.Int.{to_z-of_z}
use Rattle.col_model.proofs.WrapLemmas.{wrapped_rest}
use Rattle.col_model.proofs.ticks.wrapped_day.Goals as goal

pub returns : goal.returns
returns c = record {
  value =
      to_z-of_z w64 c.from.result (record { sfits = c.from.type_inv })
      ∙ c.from.ensures
      ∙ to_z-of_z w32 c.cast_signed.result (record { sfits = c.cast_signed.type_inv })
      ∙ c.cast_signed.ensures
      ∙ rw (to_z-of_z w64 c.rem_euclid-low.result (record { sfits = c.rem_euclid-low.type_inv })) (wrapped_rest c.args.day c.rem_euclid-low.result (rw (to_z-of_z w64 c.args.day c.ranges.day) at c.rem_euclid-low.ensures.value));
}
