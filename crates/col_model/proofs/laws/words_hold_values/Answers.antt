use Rattle.col_model.proofs.TableLemmas.{stores_values}
use Rattle.col_model.proofs.laws.words_hold_values.Goals as goal

pub returns-clause-stored : goal.returns-clause-stored
returns-clause-stored c = stores_values
