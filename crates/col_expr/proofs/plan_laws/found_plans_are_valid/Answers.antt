use Rattle.col_expr.proofs.FoundPlanLemmas.{found_plans_are_valid}
use Rattle.col_expr.proofs.plan_laws.found_plans_are_valid.Goals as goal

pub returns : goal.returns
returns c = record { law = found_plans_are_valid }
