use Rattle.std.proofs.Common.{◌-◌, ◌<◌, ◌≤◌, length}
use Rattle.std.specs.Prelude.{slice_index_or}
use Rattle.col_chunk.proofs.taking.halving.Given as goal

-- the row lies between two starts
abbrev pub invariant-loop-high : goal.invariant-loop-high
invariant-loop-high l = record {
  order : l.low < l.high;
  last : l.high < length l.starts;
  from : slice_index_or l.starts l.low 0 ≤ l.row;
  to : l.row < slice_index_or l.starts l.high 0;
}

abbrev pub decreases-loop-high : goal.decreases-loop-high
decreases-loop-high l = l.high - l.low
