use Rattle.std.proofs.Common.{◌≡◌}
use Rattle.col_chunk.specs.Chunks.{rows_from}
use Rattle.col_chunk.proofs.cursor.first_rows.Given as goal

-- the rows from here on are those from the place on
abbrev pub invariant-loop-at : goal.invariant-loop-at
invariant-loop-at g l =
    rows_from g.C.Chunk.slots l.at l.skip l.chunks
    ≡ rows_from g.C.Chunk.slots l.fn.place.chunk l.fn.place.skip l.chunks
