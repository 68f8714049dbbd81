use Rattle.col_model.proofs.DivisionLemmas.{divides_by_positive}
use Rattle.col_model.proofs.laws.divisions_by_positive.Goals as goal

pub returns : goal.returns
returns c = record { law = divides_by_positive }
