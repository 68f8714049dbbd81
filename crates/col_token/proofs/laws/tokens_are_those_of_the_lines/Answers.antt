use Rattle.col_token.proofs.LawLemmas.{texts_of-tokens}
use Rattle.col_token.proofs.laws.tokens_are_those_of_the_lines.Goals as goal

pub returns : goal.returns
returns c = record { law = texts_of-tokens }
