use Rattle.std.proofs.Common.{◌≡◌}
use Rattle.col_boolean.specs.Sums.{sum_slots}
use Rattle.col_boolean.proofs.sums.sum_rows.Given as goal

-- the sums of the rows so far are written
abbrev pub invariant-loop-row : goal.invariant-loop-row
invariant-loop-row l = l.builder ≡ sum_slots l.left l.right l.row
