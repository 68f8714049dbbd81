use Rattle.std.proofs.Common.{◌≡◌, ◌+◌, ◌++◌, drop, length}
use Rattle.col_chunk.specs.Chunks.{joined, starts_of}
use Rattle.col_chunk.proofs.taking.starts.Given as goal

-- the starts so far and those that are left make the whole
abbrev pub invariant-loop-chunk : goal.invariant-loop-chunk
invariant-loop-chunk g l = record {
  rows : l.rows + length (joined g.C.Chunk.slots (drop l.chunk-index l.chunks)) ≡ length (joined g.C.Chunk.slots l.chunks);
  starts : l.starts.items ++ starts_of g.C.Chunk.slots l.rows (drop l.chunk-index l.chunks) ≡ starts_of g.C.Chunk.slots 0 l.chunks;
}
