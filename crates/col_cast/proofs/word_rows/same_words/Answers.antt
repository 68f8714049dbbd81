use Rattle.col_model.specs.Words.{word_dtype}
use Rattle.col_cast.proofs.SlotLaws.{held_chunks, held_lost}
use Rattle.col_cast.proofs.word_rows.same_words.Goals as goal

pub returns-clause-column : goal.returns-clause-column
returns-clause-column g c =
    rw (held_chunks g.U.Word.word_type (word_dtype g.U.Word.word_type) c.args.values.now c.requires.held) at c.change_array.ensures.column

pub returns-clause-lost : goal.returns-clause-lost
returns-clause-lost g c = rw (held_lost g.U.Word.word_type c.args.values.now.column.slots c.requires.held) at c.change_array.ensures.lost
