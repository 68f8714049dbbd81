use Rattle.col_model.proofs.DivisionLemmas.{divides_down}
use Rattle.col_model.proofs.laws.divisions_round_down.Goals as goal

pub returns : goal.returns
returns c = record { law = divides_down }
