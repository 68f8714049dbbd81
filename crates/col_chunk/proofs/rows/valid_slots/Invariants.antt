use Rattle.std.proofs.Common.{◌≡◌, ◌++◌, drop, filter, is_some}
use Rattle.col_chunk.specs.Chunks.{joined}
use Rattle.col_chunk.proofs.rows.valid_slots.Given as goal

-- what is kept and what is left make the whole
abbrev pub invariant-loop-chunk : goal.invariant-loop-chunk
invariant-loop-chunk g l =
    g.C.Chunk.written l.builder ++ filter is_some (joined g.C.Chunk.slots (drop l.chunk-index l.chunks)) ≡ filter is_some (joined g.C.Chunk.slots l.chunks)
