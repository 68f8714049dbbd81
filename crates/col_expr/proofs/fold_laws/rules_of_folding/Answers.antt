use Rattle.col_expr.proofs.FoldRules.{joined_casts, turned_casts}
use Rattle.col_expr.proofs.fold_laws.rules_of_folding.Goals as goal

pub returns : goal.returns
returns c = record { joined = joined_casts; turned = turned_casts }
