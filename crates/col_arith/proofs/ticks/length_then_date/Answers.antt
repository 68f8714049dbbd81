use Rattle.std.specs.Int.{w64}
use Rattle.std.proofs.lemmas.Int.{to_z-of_z}
use Rattle.col_arith.proofs.ticks.length_then_date.Goals as goal

pub returns-clause-value : goal.returns-clause-value
returns-clause-value c =
    let days = rw (to_z-of_z w64 _ c.ranges.length) at c.whole_days.ensures.value in
    let after = rw (to_z-of_z w64 c.whole_days.result (record { sfits = c.whole_days.type_inv }), to_z-of_z w64 c.args.date c.ranges.date, days) at c.days_after.ensures.value in
    rw (to_z-of_z w64 _ (record { sfits = c.days_after.type_inv }), after) at c.as_date.ensures.value
