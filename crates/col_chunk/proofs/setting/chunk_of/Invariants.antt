use Rattle.std.proofs.Common.{◌≡◌, ◌+◌, ◌<◌, take, drop, length}
use Rattle.col_chunk.specs.Chunks.{joined}
use Rattle.col_chunk.proofs.setting.chunk_of.Given as goal

-- the row is among the chunks that are left
abbrev pub invariant-loop-chunk : goal.invariant-loop-chunk
invariant-loop-chunk g l =
    record {
      number : l.at ≡ l.chunk-index;
      before : l.index ≡ length (joined g.C.Chunk.slots (take l.chunk-index l.chunks)) + l.left;
      among : l.left < length (joined g.C.Chunk.slots (drop l.chunk-index l.chunks));
    }
