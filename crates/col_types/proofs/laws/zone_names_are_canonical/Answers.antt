use Rattle.col_types.proofs.ZoneLemmas.{canonical_names}
use Rattle.col_types.proofs.laws.zone_names_are_canonical.Goals as goal

pub returns-clause-again : goal.returns-clause-again
returns-clause-again c = canonical_names
