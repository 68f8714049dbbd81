use Rattle.col_expr.proofs.FoldLemmas.{folding_good}
use Rattle.col_expr.proofs.PlanKeptLemmas.{valid_plans_are_kept}
use Rattle.col_expr.proofs.fold_laws.folding_changes_no_answer.Goals as goal

pub returns : goal.returns
returns c = record { law = folding_good valid_plans_are_kept }
