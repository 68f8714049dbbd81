use Rattle.std.proofs.Common.{◌≡◌, length}
use Rattle.col_chunk.specs.Chunks.{rows_left}
use Rattle.chunk_cases.proofs.walks.walk_has_slots.Given as goal

-- as many rows as are left to read lie from the place on
abbrev pub invariant-loop-left : goal.invariant-loop-left
invariant-loop-left l = l.left ≡ length (rows_left l.place.chunk l.place.skip l.column)

abbrev pub decreases-loop-left : goal.decreases-loop-left
decreases-loop-left l = l.left
