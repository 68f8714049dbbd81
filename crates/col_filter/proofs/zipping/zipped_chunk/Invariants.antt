use Rattle.std.proofs.Common.{◌≡◌, ◌-◌, ◌≤◌, ◌++◌}
use Rattle.std.specs.Prelude.{if◌then◌else◌}
use Rattle.col_filter.specs.Zips.{slots_for, zipped_slots}
use Rattle.col_filter.proofs.zipping.zipped_chunk.Given as goal

-- what is written and the run behind it are the rows so far
abbrev pub invariant-loop-row : goal.invariant-loop-row
invariant-loop-row g l = record {
  order : l.from ≤ l.row;
  slots : g.C.Chunk.written l.builder
      ++ slots_for (if l.is_first then g.C.Chunk.slots l.first else g.C.Chunk.slots l.second) l.from (l.row - l.from)
      ≡ zipped_slots l.mask (g.C.Chunk.slots l.first) (g.C.Chunk.slots l.second) l.row;
}
