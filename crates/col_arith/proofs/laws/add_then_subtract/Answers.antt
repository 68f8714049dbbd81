use Rattle.col_arith.proofs.LawLemmas.{add_then_subtract}
use Rattle.col_arith.proofs.laws.add_then_subtract.Goals as goal

pub returns : goal.returns
returns c = record { law = add_then_subtract }
