use Rattle.col_expr.proofs.RefusalLemmas.{first_refusal-first_of}
use Rattle.col_expr.proofs.laws.refusals_in_postfix_order.Goals as goal

pub returns : goal.returns
returns c = record { law = first_refusal-first_of }
