use Rattle.col_arith.proofs.LawLemmas.{subtract_then_add}
use Rattle.col_arith.proofs.laws.subtract_then_add.Goals as goal

pub returns : goal.returns
returns c = record { law = subtract_then_add }
