use Rattle.col_expr.proofs.DefinedLemmas.{defined, least_refused}
use Rattle.col_expr.proofs.laws.defined_up_to_the_first_refusal.Goals as goal

pub returns-clause-defined : goal.returns-clause-defined
returns-clause-defined c = defined

pub returns-clause-least : goal.returns-clause-least
returns-clause-least c = least_refused
