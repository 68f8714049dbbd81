use Rattle.col_buffer.proofs.BitLaws.{one_of_ones}
use Rattle.col_buffer.proofs.validity.word_at.Goals as goal

pub returns-in-None : goal.returns-in-None
returns-in-None c = record { bits = λ j less inside. rw c.in-None.is (one_of_ones j less) }
