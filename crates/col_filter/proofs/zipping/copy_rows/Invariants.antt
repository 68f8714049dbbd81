use Rattle.std.proofs.Common.{◌≡◌, ◌++◌}
use Rattle.col_filter.specs.Zips.{slots_for}
use Rattle.col_filter.proofs.zipping.copy_rows.Given as goal

-- the one row is written so many times
abbrev pub invariant-loop-row : goal.invariant-loop-row
invariant-loop-row g l =
    g.C.Chunk.written l.builder ≡ g.C.Chunk.written l.initial.builder ++ slots_for (g.C.Chunk.slots l.chunk) l.from l._row
