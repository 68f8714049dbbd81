use Rattle.std.proofs.Common.{List, ℕ, sym, subst}
use Rattle.std.specs.List.{All}
use Rattle.col_model.specs.Arithmetic.{Interval}
use Rattle.col_expr.specs.PlanNode.{IsCoverOrdered}
use Rattle.col_expr.proofs.PlanNodeLemmas.{put_ordered}
use Rattle.col_expr.proofs.plan.RangePlan.put.Goals as goal
use Rattle.col_expr.proofs.plan.RangePlan.put.Goals.{in-Ok, in-Err}

pub invariant_of-self : goal.invariant_of-self
invariant_of-self c =
    let P : List (ℕ × Interval) → Type 0 = λ plan. All IsCoverOrdered plan in
    let old = c.self.inside.intervals.entries in
    elim c.match-insert.branch [
      | in-Ok w ↦ subst P (sym w.in-Ok.ensures.entries)
          (put_ordered old c.args.node c.args.interval c.self.invariant c.requires.ordered)
      | in-Err w ↦ subst P (sym w.in-Err.ensures.err) c.self.invariant
    ]
