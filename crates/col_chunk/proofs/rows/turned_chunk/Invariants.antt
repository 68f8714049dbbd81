use Rattle.std.proofs.Common.{◌≡◌, ◌++◌, ◌≤◌, take, reverse, length}
use Rattle.col_chunk.proofs.rows.turned_chunk.Given as goal

-- what is written and what is left, turned, make the answer
abbrev pub invariant-loop-left : goal.invariant-loop-left
invariant-loop-left g l =
    record {
      among : l.left ≤ length (g.C.Chunk.slots l.chunk);
      whole : g.C.Chunk.written l.builder ++ reverse (take l.left (g.C.Chunk.slots l.chunk)) ≡ reverse (g.C.Chunk.slots l.chunk);
    }

abbrev pub decreases-loop-left : goal.decreases-loop-left
decreases-loop-left g l = l.left
