use Rattle.std.proofs.Common.{sym, ◌∙◌}
use Rattle.col_expr.specs.Folded.{plan_if}
use Rattle.col_expr.proofs.FoldWaiting.{fold_back, fold_over_it}
use Rattle.col_expr.proofs.folded.fold_cast.Goals as goal

pub returns-then-turns_back : goal.returns-then-turns_back
returns-then-turns_back c = record {
  folded = λ inputs operand before after is leads.
      rw (c.under_last.ensures.under, c.joined-below.ensures.joined)
      (fold_back inputs (plan_if c.args.valid c.args.plan.now) operand before after c.args.below
      c.args.cast is leads
      (rw c.joined-below.ensures.joined at (sym c.turns_back.ensures.back ∙ c.if-turns_back.true)));
}

pub returns-in-Ok : goal.returns-in-Ok
returns-in-Ok c = record {
  folded = λ inputs operand before after is leads.
      rw (c.in-Ok.ensures.ok, c.joined-below.ensures.joined)
      (fold_over_it inputs (plan_if c.args.valid c.args.plan.now) operand before after c.args.below
      c.args.cast is leads
      (rw c.joined-below.ensures.joined at (sym c.turns_back.ensures.back
      ∙ c.if-turns_back.false)));
}
