use Rattle.std.proofs.Common.{Some, ap}
use Rattle.col_arith.proofs.TickLemmas.{wrapped-sum, wrapped-difference}
use Rattle.col_arith.proofs.ticks.wrapping_op.Goals as goal

pub returns-in-Add-clause-value : goal.returns-in-Add-clause-value
returns-in-Add-clause-value c = rw c.in-Add.is (ap Some (wrapped-sum _ _ c.ranges.left c.ranges.right))

pub returns-in-Sub-clause-value : goal.returns-in-Sub-clause-value
returns-in-Sub-clause-value c = rw c.in-Sub.is (ap Some (wrapped-difference _ _ c.ranges.left c.ranges.right))
