use Rattle.col_cast.proofs.RowLaws.{reread_formula}
use Rattle.col_cast.proofs.SlotLaws.{kept_slots}
use Rattle.col_cast.proofs.casting.cast_words.Goals as goal

pub same_words-requires : goal.same_words-requires
same_words-requires g c = record {
  held = kept_slots c.args.rule.now.from c.args.rule.now.to c.row.result g.U.Word.word_type c.args.values.now.column.slots c.in-Same.is c.row.ensures.row
      c.requires.target c.requires.values;
}

pub returns-in-Reread-clause-column : goal.returns-in-Reread-clause-column
returns-in-Reread-clause-column g c =
    let e = reread_formula c.args.rule.now c.to_type.result.now c.options.result g.U.Word.word_type c.in-Reread.ensures.rule c.to_type.ensures.to
    c.options.ensures.options c.requires.target in
    rw e c.reread.ensures.column
