use Rattle.std.proofs.Common.{◌≡◌, take}
use Rattle.std.specs.Prelude.{count_by}
use Rattle.col_filter.specs.Filters.{is_true_slot}
use Rattle.col_filter.proofs.masks.count_true.Given as goal

-- the true ones among the rows so far
abbrev pub invariant-loop-row : goal.invariant-loop-row
invariant-loop-row l = l.count ≡ count_by is_true_slot (take l.row l.mask)
