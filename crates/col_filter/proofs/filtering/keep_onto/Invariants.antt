use Rattle.std.proofs.Common.{◌≡◌, ◌+◌, ◌-◌, ◌≤◌, ◌++◌, drop, take}
use Rattle.col_filter.specs.Filters.{kept_slots}
use Rattle.col_filter.proofs.filtering.keep_onto.Given as goal

-- what is written, the run behind it and what is left to keep make the answer
abbrev pub invariant-loop-row : goal.invariant-loop-row
invariant-loop-row g l = record {
  order : l.from ≤ l.row;
  slots : (g.C.Chunk.written l.builder ++ take (l.row - l.from) (drop l.from (g.C.Chunk.slots l.chunk)))
      ++ kept_slots (drop (l.start + l.row) l.mask) (drop l.row (g.C.Chunk.slots l.chunk))
      ≡ g.C.Chunk.written l.initial.builder ++ kept_slots (drop l.start l.mask) (g.C.Chunk.slots l.chunk);
}
