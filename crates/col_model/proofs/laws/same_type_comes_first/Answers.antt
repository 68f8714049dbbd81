use Rattle.col_model.proofs.TableLemmas.{same_type_first}
use Rattle.col_model.proofs.laws.same_type_comes_first.Goals as goal

pub returns : goal.returns
returns c = record { first = same_type_first }
