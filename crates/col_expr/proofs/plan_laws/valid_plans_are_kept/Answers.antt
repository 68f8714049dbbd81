use Rattle.col_expr.proofs.PlanKeptLemmas.{valid_plans_are_kept}
use Rattle.col_expr.proofs.plan_laws.valid_plans_are_kept.Goals as goal

pub returns : goal.returns
returns c = record { law = valid_plans_are_kept }
