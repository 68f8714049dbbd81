use Rattle.std.proofs.Common.{ap, ◌∙◌, ◌-◌, btree_map_len}
use Rattle.col_expr.specs.Plan.{ends_before}
use Rattle.col_expr.proofs.PlanNodeLemmas.{ends-last}
use Rattle.col_expr.proofs.plan.RangePlan.ends_before.Goals as goal

pub returns-in-Some : goal.returns-in-Some
returns-in-Some c =
    let last = c.in-Some in
    let plan = c.self.inside.intervals in
    record {
      ends = ends-last plan.entries (btree_map_len plan - 1) last.node.now c.args.count last.field-0-1.now
          last.ensures.all_up_to last.ensures.last
          ∙ ap (λ p. ends_before p c.args.count) c.self.view_is;
    }
