use Rattle.std.proofs.Common.{sym}
use Rattle.col_expr.proofs.PlanNodeLemmas.{looked_up}
use Rattle.col_expr.proofs.plan.RangePlan.interval.Goals as goal

pub returns-in-Some-clause-ordered : goal.returns-in-Some-clause-ordered
returns-in-Some-clause-ordered c =
    looked_up c.self.inside.intervals.entries c.args.node c.in-Some.interval.now c.self.invariant
    (sym c.in-Some.ensures.value)
