use Rattle.col_model.proofs.WordLemmas.{word_keeps}
use Rattle.col_model.proofs.laws.words_keep.Goals as goal

pub returns : goal.returns
returns c = record { law = word_keeps }
