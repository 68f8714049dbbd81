use Rattle.std.proofs.Common.{◌≡◌, ◌++◌, drop, map}
use Rattle.col_model.specs.ChunkCalls.{slot_named}
use Rattle.col_chunk.specs.Chunks.{joined}
use Rattle.col_chunk.proofs.taking.gather_onto.Given as goal

-- what is written and what is left make the whole
abbrev pub invariant-loop-at : goal.invariant-loop-at
invariant-loop-at g l =
    g.C.Chunk.written l.builder ++ map (slot_named (joined g.C.Chunk.slots l.chunks)) (drop l.at (g.I.Indices.rows l.indices))
    ≡ g.C.Chunk.written l.initial.builder ++ map (slot_named (joined g.C.Chunk.slots l.chunks)) (g.I.Indices.rows l.indices)
