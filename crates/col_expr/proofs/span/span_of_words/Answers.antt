use Rattle.std.proofs.Common.{ap, ◌∙◌}
use Rattle.std.specs.List.{reduce}
use Rattle.std.specs.Option.{option_map}
use Rattle.col_model.specs.Words.{integers_of, lesser}
use Rattle.col_expr.specs.Span.{from_to}
use Rattle.col_expr.proofs.SpanLemmas.{from_to-reduced}
use Rattle.col_expr.proofs.span.span_of_words.Goals as goal

pub returns : goal.returns
returns g c = record {
  span = c.from_to.ensures.span
      ∙ ap (λ low. from_to low (option_map g.T.Word.reading c.max.result)) c.min.ensures.value
      ∙ ap (from_to (reduce lesser (integers_of c.args.words.now.column.slots)))
      c.max.ensures.value
      ∙ from_to-reduced c.args.words.now.column.slots;
}
