use Rattle.std.proofs.Common.{◌≡◌, ◌++◌, drop}
use Rattle.col_chunk.specs.Chunks.{joined}
use Rattle.col_chunk.proofs.appending.with_others.Given as goal

-- what is copied and what is left make the whole
abbrev pub invariant-loop-chunk : goal.invariant-loop-chunk
invariant-loop-chunk g l =
    g.C.Chunk.written l.builder ++ joined g.C.Chunk.slots (drop l.chunk-index l.others) ≡ g.C.Chunk.slots l.first ++ joined g.C.Chunk.slots l.others
