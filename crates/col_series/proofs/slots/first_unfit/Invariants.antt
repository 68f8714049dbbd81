use Rattle.std.proofs.Common.{◌≡◌, drop}
use Rattle.std.specs.List.{position_from}
use Rattle.col_model.specs.ColumnCalls.{is_unfit}
use Rattle.col_series.proofs.slots.first_unfit.Given as goal

abbrev pub invariant-loop-row : goal.invariant-loop-row
invariant-loop-row l = position_from (is_unfit l.dtype) l.row (drop l.row l.front) ≡ position_from (is_unfit l.dtype) 0 l.front
