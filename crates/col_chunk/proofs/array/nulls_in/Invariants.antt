use Rattle.std.proofs.Common.{◌≡◌, ◌+◌, drop}
use Rattle.col_model.specs.ChunkCalls.{null_count}
use Rattle.col_chunk.specs.Chunks.{joined}
use Rattle.col_chunk.proofs.array.nulls_in.Given as goal

-- what is counted and what is left make the whole
abbrev pub invariant-loop-chunk : goal.invariant-loop-chunk
invariant-loop-chunk g l =
    l.nulls + null_count (joined g.C.Chunk.slots (drop l.chunk-index l.chunks)) ≡ null_count (joined g.C.Chunk.slots l.chunks)
