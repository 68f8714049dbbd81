use Rattle.std.proofs.Common.{◌∙◌, drop}
use Rattle.col_chunk.proofs.FoldLaws.{reduce-found, reduce-skip}
use Rattle.col_chunk.proofs.reductions.reduce_all.Goals as goal

pub returns-in-Some : goal.returns-in-Some
returns-in-Some g c =
    record {
      value = reduce-found (λ chunk. chunk) g.S.Step.step c.args.chunks.now c.loop-at.at c.index-chunks-at.result (g.T.Word.reading c.in-Some.first.1) (g.T.Word.reading c.join_behind-total.result) (g.T.Word.reading c.fold_from.result) (drop c.in-Some.first.0 c.index-chunks-at.result)
          c.loop-at-test.true c.index-chunks-at.is c.in-Some.ensures.first c.join_behind-total.ensures.value c.fold_from.ensures.value c.loop-at.invariant;
    }

pub loop-at-preserved : goal.loop-at-preserved
loop-at-preserved g c =
    c.loop-at.invariant ∙ reduce-skip (λ chunk. chunk) c.args.chunks.now c.loop-at.at c.index-chunks-at.result c.loop-at-test.true c.index-chunks-at.is c.in-None.ensures.none
