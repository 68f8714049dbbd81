use Rattle.std.proofs.Common.{◌≡◌, ◌++◌, drop}
use Rattle.std.specs.Prelude.{is_none, is_some, if◌then◌else◌}
use Rattle.col_filter.specs.Nulls.{tested_slots}
use Rattle.col_filter.proofs.nulls.test_onto.Given as goal

-- what is written and what is left make the whole
abbrev pub invariant-loop-row : goal.invariant-loop-row
invariant-loop-row g l =
    l.builder ++ tested_slots (if l.valid then is_some else is_none) (drop l.row (g.C.Chunk.slots l.chunk))
    ≡ l.initial.builder ++ tested_slots (if l.valid then is_some else is_none) (g.C.Chunk.slots l.chunk)
