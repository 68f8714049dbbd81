use Rattle.std.specs.Int.{w64}
use Rattle.std.proofs.lemmas.Int.{to_z-of_z}
use Rattle.col_arith.proofs.TickLemmas.{ticks-value}
use Rattle.col_arith.proofs.ticks.pair_tick.Goals as goal

pub returns-in-Ticks-clause-value : goal.returns-in-Ticks-clause-value
returns-in-Ticks-clause-value c =
    let left = rw (to_z-of_z w64 _ c.ranges.left) at c.operand_tick.ensures.value in
    let right = rw (to_z-of_z w64 _ c.ranges.right) at c.operand_tick-in-Ticks.ensures.value in
    rw c.in-Ticks.is (ticks-value _ _ _ _ _ _ _ _ left right c.wrapping_slots.ensures.value)
