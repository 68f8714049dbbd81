use Rattle.std.proofs.Common.{◌≡◌, drop}
use Rattle.col_model.specs.Words.{integers_of}
use Rattle.col_chunk.specs.Chunks.{joined}
use Rattle.col_chunk.proofs.reductions.reduce_all.Given as goal

-- the chunks so far have no valid slot
abbrev pub invariant-loop-at : goal.invariant-loop-at
invariant-loop-at g l = integers_of (joined (λ chunk. chunk) l.chunks) ≡ integers_of (joined (λ chunk. chunk) (drop l.at l.chunks))
