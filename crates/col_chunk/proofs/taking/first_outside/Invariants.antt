use Rattle.std.proofs.Common.{◌≡◌, drop}
use Rattle.col_chunk.specs.Chunks.{joined}
use Rattle.col_chunk.proofs.TakeLaws.{outside_row}
use Rattle.col_chunk.proofs.taking.first_outside.Given as goal

-- no index so far is past the end
abbrev pub invariant-loop-chunk : goal.invariant-loop-chunk
invariant-loop-chunk l =
    outside_row l.rows (joined (λ chunk. chunk) (drop l.chunk-index l.indices))
    ≡ outside_row l.rows (joined (λ chunk. chunk) l.indices)
