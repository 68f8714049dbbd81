use Rattle.std.proofs.Common.{ap, ◌∙◌}
use Rattle.col_expr.specs.Span.{is_span_within}
use Rattle.col_expr.proofs.SpanLemmas.{within-spanned}
use Rattle.col_expr.proofs.check.is_column_within.Goals as goal

pub returns : goal.returns
returns c = record {
  within = c.is_span_within.ensures.within
      ∙ ap (is_span_within c.args.range) c.span_of.ensures.span
      ∙ within-spanned c.args.column.now.column.dtype c.args.range c.args.column.now.column.slots
      c.known.ensures.valid.values;
}
