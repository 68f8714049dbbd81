use Rattle.col_types.proofs.NameLemmas.{has_name-with_name}
use Rattle.col_types.proofs.laws.names_are_kept.Goals as goal

pub returns : goal.returns
returns c = record { kept = has_name-with_name }
