use Rattle.std.specs.Int.{w128}
use Rattle.std.proofs.lemmas.Int.{to_z-of_z}
use Rattle.col_arith.proofs.arith.SeriesSeriesArith.checked_div_num.Goals as goal

pub returns : goal.returns
returns c = record { answer = rw (to_z-of_z w128 _ c.ranges.rhs) at c.checked_div_num.ensures.column }
