use Rattle.std.proofs.Common.{◌∙◌, ◌++◌, ap, arith}
use Rattle.std.specs.List.{flat_map}
use Rattle.std.proofs.lemmas.List.{take_all}
use Rattle.col_text.specs.Answer.{slot_line}
use Rattle.col_text.proofs.RowLemmas.{chunk-lines}
use Rattle.col_text.proofs.rows.push_chunks.Goals as goal

pub returns : goal.returns
returns g c = record {
  text = c.loop-chunk.invariant
      ∙ ap (λ chunks. c.args.text.now.items ++ flat_map (λ chunk. flat_map slot_line chunk) chunks) (take_all c.loop-chunk.chunk-index c.args.chunks.now (omega (arith, c.loop-chunk-test.false)))
      ∙ ap (λ lines. c.args.text.now.items ++ lines) (chunk-lines c.args.chunks.now);
}
