use Rattle.col_types.specs.declared.cast_options.CastOptions.TheVariants.{NonStrict}
use Rattle.col_model.specs.Chunked.{column_of}
use Rattle.col_expr.specs.declared.node.UnaryOp.TheVariants as operations
use Rattle.col_expr.proofs.FoldWaiting.{operation_ready}
use Rattle.col_expr.proofs.folded.done.Goals as goal

pub returns : goal.returns
returns g c = record {
  ready = λ inputs folded before fine low.
      rw c.counted.ensures.answer
      (operation_ready inputs folded c.args.cast.node
      (operations.Cast c.args.cast.target NonStrict) (column_of c.args.column.now) before
      c.args.steps.now c.counted.new.steps c.unary_column.result fine
      c.unary_column.ensures.answer low
      (rw c.counted.ensures.answer at c.counted.ensures.steps));
}
