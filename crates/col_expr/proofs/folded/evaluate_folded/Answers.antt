use Rattle.std.proofs.Common.{Err}
use Rattle.col_model.specs.Chunked.{columns_of}
use Rattle.col_expr.specs.Folded.{folded}
use Rattle.col_expr.proofs.FoldWaiting.{folded_outcome}
use Rattle.col_expr.proofs.folded.evaluate_folded.Goals as goal

pub returns-in-Ok-clause-outcome : goal.returns-in-Ok-clause-outcome
returns-in-Ok-clause-outcome g c =
    let inputs = columns_of c.args.inputs.now in
    let ready = c.settled.ensures.ready inputs (folded inputs c.args.plan.now c.args.expr.now)
    c.args.steps.now
    (rw (c.check_plan-valid.ensures.valid, c.root.ensures.tree) at c.in-Ok.ensures.folded) in
    folded_outcome inputs c.args.plan.now c.args.expr.now c.settled.result
    c.known.ensures.valid c.root.ensures.built ready.found

pub returns-in-Err-clause-outcome : goal.returns-in-Err-clause-outcome
returns-in-Err-clause-outcome g c =
    folded_outcome (columns_of c.args.inputs.now) c.args.plan.now c.args.expr.now
    (Err c.in-Err.refusal) c.known.ensures.valid c.root.ensures.built
    (rw (c.check_plan-valid.ensures.valid, c.root.ensures.tree) at c.in-Err.ensures.folded)
