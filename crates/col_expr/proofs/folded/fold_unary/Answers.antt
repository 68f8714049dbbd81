use Rattle.std.proofs.lemmas.Result.{err_from_is_err_and}
use Rattle.col_model.specs.Chunked.{column_of}
use Rattle.col_expr.specs.Folded.{plan_if}
use Rattle.col_expr.proofs.FoldWaiting.{operation_ready, with_operation}
use Rattle.col_expr.proofs.FoldNodes.{cast_folds, operation_folds, over_refused}
use Rattle.col_expr.proofs.folded.fold_unary.Goals as goal

pub returns-in-Some : goal.returns-in-Some
returns-in-Some g c = record {
  folded = λ inputs operand before is.
      cast_folds inputs (plan_if c.args.valid c.args.plan.now) operand before c.args.steps.now
      c.args.below c.args.node c.args.operation.now c.in-Some.cast c.fold_cast.result is
      (rw c.waiting_dtype.ensures.dtype at c.in-Some.ensures.cast)
      (λ leads. c.fold_cast.ensures.folded inputs operand before c.args.steps.now is leads);
}

pub returns-in_ok-column-in-None : goal.returns-in_ok-column-in-None
returns-in_ok-column-in-None g c = record {
  folded = λ inputs operand before is.
      let ready = c.in_ok-column-in-None.ensures.ready inputs operand before is in
      let op = c.args.operation.now in
      operation_folds inputs (plan_if c.args.valid c.args.plan.now) operand before
      c.args.steps.now c.counted.new.steps c.args.below c.args.node op c.none_waits.result is
      (rw c.waiting_dtype.ensures.dtype at c.in-None.ensures.cast)
      (c.none_waits.ensures.waiting inputs (with_operation c.args.node op operand) before
      c.counted.new.steps
      (rw c.counted.ensures.answer
      (operation_ready inputs operand c.args.node op (column_of c.in_ok-column-in-None.column)
      before c.settled.new.steps c.counted.new.steps c.unary_column.result ready.found
      c.unary_column.ensures.answer ready.counted
      (rw c.counted.ensures.answer at c.counted.ensures.steps))));
}

pub returns-in_err-column-in-None : goal.returns-in_err-column-in-None
returns-in_err-column-in-None g c = record {
  folded = λ inputs operand before is.
      let p = err_from_is_err_and c.from_residual.result c.from_residual.ensures.1 in
      rw (p.1, p.2)
      (over_refused inputs (plan_if c.args.valid c.args.plan.now) c.args.node
      c.args.operation.now operand _
      (c.in_err-column-in-None.ensures.ready inputs operand before is).found);
}
