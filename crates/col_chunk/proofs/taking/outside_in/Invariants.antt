use Rattle.std.proofs.Common.{◌≡◌, drop}
use Rattle.col_chunk.proofs.TakeLaws.{outside_row}
use Rattle.col_chunk.proofs.taking.outside_in.Given as goal

-- no index so far is past the end
abbrev pub invariant-loop-at : goal.invariant-loop-at
invariant-loop-at g l =
    outside_row l.rows (drop l.at (g.I.Indices.rows l.indices)) ≡ outside_row l.rows (g.I.Indices.rows l.indices)
