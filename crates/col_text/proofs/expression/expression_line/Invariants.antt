use Rattle.std.proofs.Common.{◌≡◌, Some, length}
use Rattle.col_token.specs.Tokens.{words_in}
use Rattle.col_text.specs.Expression.{symbols_of, expression_line}
use Rattle.col_text.proofs.ExpressionLemmas.{tree_from}
use Rattle.col_text.proofs.expression.expression_line.Given as goal

abbrev pub invariant-tokens : goal.invariant-tokens
invariant-tokens l =
    tree_from (Some l.stack) (symbols_of l.zones (words_in l.rest))
    ≡ expression_line l.zones (words_in l.line)

abbrev pub decreases-tokens : goal.decreases-tokens
decreases-tokens l = length l.rest
