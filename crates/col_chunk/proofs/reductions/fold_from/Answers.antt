use Rattle.col_chunk.proofs.FoldLaws.{chunks-step}
use Rattle.col_chunk.proofs.reductions.fold_from.Goals as goal

pub loop-at-preserved : goal.loop-at-preserved
loop-at-preserved g c =
    chunks-step (λ chunk. chunk) g.S.Step.step c.args.chunks.now c.loop-at.at c.index-chunks-at.result (g.T.Word.reading c.loop-at.total) (g.T.Word.reading c.fold-total.result) _
    c.loop-at-test.true c.index-chunks-at.is c.fold-total.ensures.value c.loop-at.invariant
