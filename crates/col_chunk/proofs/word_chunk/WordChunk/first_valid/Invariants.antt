use Rattle.std.proofs.Common.{◌≡◌, drop}
use Rattle.col_model.specs.Words.{integers_of}
use Rattle.col_chunk.proofs.word_chunk.WordChunk.first_valid.Given as goal

-- the slots so far are null
abbrev pub invariant-loop-index : goal.invariant-loop-index
invariant-loop-index g l = integers_of l.self ≡ integers_of (drop l.index l.self)
