use Rattle.col_model.proofs.TableLemmas.{settles_once}
use Rattle.col_model.proofs.laws.targets_settle_once.Goals as goal

pub returns-clause-once : goal.returns-clause-once
returns-clause-once c = settles_once
