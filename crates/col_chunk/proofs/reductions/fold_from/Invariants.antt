use Rattle.std.proofs.Common.{◌≡◌, drop}
use Rattle.std.specs.Prelude.{fold}
use Rattle.col_model.specs.Words.{integers_of}
use Rattle.col_chunk.specs.Chunks.{joined}
use Rattle.col_chunk.proofs.reductions.fold_from.Given as goal

-- what is joined and what is left come to the whole
abbrev pub invariant-loop-at : goal.invariant-loop-at
invariant-loop-at g l =
    fold g.S.Step.step (g.T.Word.reading l.total) (integers_of (joined (λ chunk. chunk) (drop l.at l.chunks)))
    ≡ fold g.S.Step.step (g.T.Word.reading l.initial.total) (integers_of (joined (λ chunk. chunk) (drop l.fn.from l.chunks)))
