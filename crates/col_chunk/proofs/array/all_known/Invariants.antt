use Rattle.std.proofs.Common.{◌≡◌, take, true}
use Rattle.std.specs.List.{list_all}
use Rattle.col_chunk.specs.Chunks.{joined}
use Rattle.col_chunk.proofs.array.all_known.Given as goal

-- the slots of the chunks so far
abbrev pub invariant-loop-chunk : goal.invariant-loop-chunk
invariant-loop-chunk g l = list_all g.C.Chunk.is_slot (joined g.C.Chunk.slots (take l.chunk-index l.chunks)) ≡ true
