use Rattle.std.proofs.Common.{None, Some, sym, ◌∙◌}
use Rattle.col_chunk.proofs.TakeLaws.{outside-chunks}
use Rattle.col_chunk.proofs.taking.first_outside.Goals as goal

pub returns-in-Some : goal.returns-in-Some
returns-in-Some c = record {
  index = sym (outside-chunks (λ chunk. chunk) c.args.rows c.args.indices.now c.loop-chunk.chunk-index c.chunk-item.result
      (Some c.in-Some.index) c.loop-chunk-test.true c.chunk-item.is c.in-Some.ensures.index) ∙ c.loop-chunk.invariant;
}

pub loop-chunk-preserved : goal.loop-chunk-preserved
loop-chunk-preserved c =
    sym (outside-chunks (λ chunk. chunk) c.args.rows c.args.indices.now c.loop-chunk.chunk-index c.chunk-item.result
    None c.loop-chunk-test.true c.chunk-item.is c.in-None.ensures.index) ∙ c.loop-chunk.invariant
