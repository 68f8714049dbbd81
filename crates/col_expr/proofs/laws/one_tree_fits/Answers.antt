use Rattle.col_expr.proofs.PostfixLemmas.{tree_of-postfix, postfix-tree_of}
use Rattle.col_expr.proofs.laws.one_tree_fits.Goals as goal

pub returns-clause-read_back : goal.returns-clause-read_back
returns-clause-read_back c = tree_of-postfix

pub returns-clause-only : goal.returns-clause-only
returns-clause-only c = postfix-tree_of
