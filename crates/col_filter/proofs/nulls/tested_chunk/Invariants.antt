use Rattle.std.proofs.Common.{◌≡◌, ◌++◌, drop}
use Rattle.std.specs.Prelude.{is_none, is_some, if◌then◌else◌}
use Rattle.col_chunk.specs.Chunks.{joined}
use Rattle.col_filter.specs.Nulls.{tested_slots}
use Rattle.col_filter.proofs.nulls.tested_chunk.Given as goal

-- what is written and what is left make the whole
abbrev pub invariant-loop-chunk : goal.invariant-loop-chunk
invariant-loop-chunk g l =
    l.builder ++ tested_slots (if l.valid then is_some else is_none) (joined g.C.Chunk.slots (drop l.chunk-index l.chunks))
    ≡ tested_slots (if l.valid then is_some else is_none) (joined g.C.Chunk.slots l.chunks)
