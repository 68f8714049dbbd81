use Rattle.col_text.proofs.ExpressionLemmas.{tree_from-step, tree_from-stop}
use Rattle.col_text.proofs.expression.expression_line.Goals as goal

pub tokens-preserved : goal.tokens-preserved
tokens-preserved c =
    tree_from-step c.args.zones.now c.tokens.stack _ c.in-Some.token.now _ _ _
    c.in-Some.ensures.first c.in_default-push_token.ensures.stack c.tokens.invariant

pub returns-in-Err : goal.returns-in-Err
returns-in-Err c = record {
  tree = tree_from-stop c.args.zones.now c.tokens.stack _ c.in-Some.token.now _ _ _ _
      c.in-Some.ensures.first c.in-Err.ensures.stack c.tokens.invariant;
}
