use Rattle.std.proofs.Common.{◌^◌, sym, arith}
use Rattle.std.proofs.lemmas.List.{take_all, length-take-le}
use Rattle.col_series.proofs.slots.front.Goals as goal

pub slice_bounds-result-end : goal.slice_bounds-result-end
slice_bounds-result-end c = sym (length-take-le (2 ^ 32) c.args.slots.now (omega arith))

pub returns-then-slots-le-ROW_LIMIT-clause-front : goal.returns-then-slots-le-ROW_LIMIT-clause-front
returns-then-slots-le-ROW_LIMIT-clause-front c = sym (take_all (2 ^ 32) c.args.slots.now (omega arith))

pub returns-else-slots-le-ROW_LIMIT-clause-few : goal.returns-else-slots-le-ROW_LIMIT-clause-few
returns-else-slots-le-ROW_LIMIT-clause-few c = omega (arith, length-take-le (2 ^ 32) c.args.slots.now (omega arith))
