use Rattle.col_buffer.proofs.BitLaws.{valid_of_ones}
use Rattle.col_buffer.proofs.validity.all_valid.Goals as goal

pub returns-clause-valid : goal.returns-clause-valid
returns-clause-valid c = λ j less. valid_of_ones c.args.count j c.in_ok-words.words.items (c.in_ok-words.ensures.items_if_clones_equal (λ y e. e)) less
