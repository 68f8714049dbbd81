use Rattle.col_text.proofs.AnswerLemmas.{parts_text, rows_of-slots}
use Rattle.col_text.proofs.answer.answer_text.Goals as goal

pub returns : goal.returns
returns c = record {
  text = parts_text _ _ _ _ _ c.in_ok-push_rows.ensures.text c.in_ok-text.ensures.text
      (rows_of-slots c.args.column.now.column.dtype c.args.column.now.column.slots c.known.ensures.valid.typed);
}
