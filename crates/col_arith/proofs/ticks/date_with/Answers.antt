use Rattle.std.specs.Prelude.{◌≡◌, ◌*ℤ◌, ℤ, pos, Some}
use Rattle.std.specs.Int.{w64, cast_signed, cast_unsigned}
use Rattle.std.proofs.Common.{◌∙◌, ap}
use Rattle.std.proofs.lemmas.Int.{to_z-of_z}
use Rattle.col_model.specs.Formula.{X, Y, value_of, on_both}
use Rattle.col_model.specs.OperatorTable.{wrapping}
use Rattle.col_arith.specs.PairRule.{add_or_sub}
use Rattle.col_arith.proofs.TickLemmas.{date_with-value}
use Rattle.col_arith.proofs.ticks.date_with.Goals as goal

pub returns-clause-value : goal.returns-clause-value
returns-clause-value c =
    let length = rw (to_z-of_z w64 _ c.ranges.length) at c.duration_by.ensures.value in
    let date : cast_signed w64 (cast_unsigned w64 c.midnight.result) ≡ c.args.date *ℤ pos c.args.day =
    to_z-of_z w64 _ (record { sfits = c.midnight.type_inv }) ∙ rw (to_z-of_z w64 _ c.ranges.date) at c.midnight.ensures.value in
    date_with-value c.args.op c.args.day c.args.change c.args.date c.args.length _ _ _ length
    (c.wrapping_slots-moment.ensures.value ∙ ap (λ (z : ℤ). on_both (value_of (wrapping (add_or_sub c.args.op) X Y)) (Some z) c.duration_by.result) date) c.date_of.ensures.value
