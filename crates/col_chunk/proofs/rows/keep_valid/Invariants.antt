use Rattle.std.proofs.Common.{◌≡◌, ◌++◌, drop, filter, is_some}
use Rattle.col_chunk.proofs.rows.keep_valid.Given as goal

-- what is kept and what is left make the whole
abbrev pub invariant-loop-index : goal.invariant-loop-index
invariant-loop-index g l =
    g.C.Chunk.written l.builder ++ filter is_some (drop l.index (g.C.Chunk.slots l.chunk)) ≡ g.C.Chunk.written l.initial.builder ++ filter is_some (g.C.Chunk.slots l.chunk)
