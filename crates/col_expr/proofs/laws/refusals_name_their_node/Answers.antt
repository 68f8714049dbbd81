use Rattle.col_expr.proofs.CauseLemmas.{cast_answer, outcome_named}
use Rattle.col_expr.proofs.laws.refusals_name_their_node.Goals as goal

pub returns-clause-casts : goal.returns-clause-casts
returns-clause-casts c = cast_answer

pub returns-clause-outcomes : goal.returns-clause-outcomes
returns-clause-outcomes c = outcome_named
