use Rattle.std.specs.Int.{w128}
use Rattle.std.proofs.lemmas.Int.{to_z-of_z}
use Rattle.col_arith.proofs.scalar.checked_div_num.Goals as goal

pub returns : goal.returns
returns c = record { column = rw (to_z-of_z w128 _ c.ranges.k) at c.scalar.ensures.column }
