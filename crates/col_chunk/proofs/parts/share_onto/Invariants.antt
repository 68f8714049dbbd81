use Rattle.std.proofs.Common.{◌≡◌, ◌++◌, ◌+◌, ◌≤◌, drop, take, length}
use Rattle.col_chunk.specs.Chunks.{joined}
use Rattle.col_chunk.proofs.parts.share_onto.Given as goal

-- what is shared and what is left to share make the part
abbrev pub invariant-loop-chunk : goal.invariant-loop-chunk
invariant-loop-chunk g l =
    let rest = joined g.C.Chunk.slots (drop l.chunk-index l.chunks) in
    record {
      room : l.skip + l.left ≤ length rest;
      whole : joined g.C.Chunk.slots l.parts.items ++ take l.left (drop l.skip rest)
          ≡ joined g.C.Chunk.slots l.initial.parts.items ++ take l.len (drop l.offset (joined g.C.Chunk.slots l.chunks));
    }
