use Rattle.col_model.proofs.DivisionLemmas.{truncates}
use Rattle.col_model.proofs.laws.divisions_truncate.Goals as goal

pub returns : goal.returns
returns c = record { law = truncates }
