use Rattle.std.proofs.Common.{◌≡◌, ◌+◌, ◌++◌, drop, length}
use Rattle.col_chunk.specs.Chunks.{joined}
use Rattle.col_filter.specs.Filters.{kept_slots}
use Rattle.col_filter.proofs.filtering.kept_chunk.Given as goal

-- what is kept and what is left to keep make the answer
abbrev pub invariant-loop-chunk : goal.invariant-loop-chunk
invariant-loop-chunk g l = record {
  rows : l.start + length (joined g.C.Chunk.slots (drop l.chunk-index l.chunks)) ≡ length l.mask;
  slots : g.C.Chunk.written l.builder ++ kept_slots (drop l.start l.mask) (joined g.C.Chunk.slots (drop l.chunk-index l.chunks))
      ≡ kept_slots l.mask (joined g.C.Chunk.slots l.chunks);
}
