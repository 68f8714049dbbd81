use Rattle.std.proofs.Common.{◌≡◌}
use Rattle.col_chunk.specs.Chunks.{rows_from}
use Rattle.col_civil.proofs.slots.first_rows.Given as goal

-- the rows from here on are those from the place on
abbrev pub invariant-loop-at : goal.invariant-loop-at
invariant-loop-at g l =
    rows_from (λ chunk. chunk) l.at l.skip l.chunks ≡ rows_from (λ chunk. chunk) l.fn.chunk l.initial.skip l.chunks
