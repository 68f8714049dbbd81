use Rattle.col_token.proofs.StandLemmas.{placed_tokens-stand}
use Rattle.col_token.proofs.tokens.Tokens.new.Goals as goal

pub returns-clause-places : goal.returns-clause-places
returns-clause-places c = placed_tokens-stand c.args.text.now
