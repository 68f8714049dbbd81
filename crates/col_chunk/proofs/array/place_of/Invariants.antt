use Rattle.std.proofs.Common.{◌≡◌, ◌<◌, None, length, drop, slice_index_or}
use Rattle.col_chunk.specs.Chunks.{joined}
use Rattle.col_chunk.proofs.array.place_of.Given as goal

-- the row is among the chunks that are left
abbrev pub invariant-loop-chunk : goal.invariant-loop-chunk
invariant-loop-chunk g l =
    let rest = joined g.C.Chunk.slots (drop l.chunk-index l.chunks) in
    record {
      among : l.left < length rest;
      same : slice_index_or rest l.left None ≡ slice_index_or (joined g.C.Chunk.slots l.chunks) l.index None;
    }
