use Rattle.std.proofs.Common.{◌≡◌, ◌++◌, drop}
use Rattle.col_chunk.specs.Chunks.{joined, lengths_of}
use Rattle.col_chunk.proofs.array.shared.Given as goal

-- what is copied and what is left make the whole
abbrev pub invariant-loop-chunk : goal.invariant-loop-chunk
invariant-loop-chunk g l = record {
  slots : joined g.C.Chunk.slots l.copies.items ++ joined g.C.Chunk.slots (drop l.chunk-index l.chunks) ≡ joined g.C.Chunk.slots l.chunks;
  lengths : lengths_of g.C.Chunk.slots l.copies.items ++ lengths_of g.C.Chunk.slots (drop l.chunk-index l.chunks) ≡ lengths_of g.C.Chunk.slots l.chunks;
}
