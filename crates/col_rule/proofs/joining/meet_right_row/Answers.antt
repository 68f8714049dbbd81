use Rattle.std.proofs.Common.{rules, refl, ap, sym, ◌≡◌, ◌∙◌, replicate, None}
use Rattle.std.proofs.lemmas.Result.{IfOk-weaker}
use Rattle.col_model.specs.Words.{word_dtype}
use Rattle.col_model.specs.Chunked.{column_of}
use Rattle.col_rule.proofs.AnswerLaws.{answer-same}
use Rattle.col_rule.proofs.RowLaws.{right_word, right_null}
use Rattle.col_rule.proofs.joining.meet_right_row.Goals as goal

pub returns-in_ok-changed-in-Some : goal.returns-in_ok-changed-in-Some
returns-in_ok-changed-in-Some g c =
    let same : c.args.left.now.column.name ≡ c.in_ok-name.name = search rules in
    let dtype = word_dtype g.V.Word.word_type in
    record {
      column = right_word (g.R.PairRule.value c.args.rule.now) dtype c.args.left.now.column c.args.right.now.column (g.U.Word.reading c.in-Some.word) c.requires.one c.in-Some.ensures.slot
          ∙ answer-same dtype _ _ _ _ c.in_ok-changed-in-Some.changed.array.column same refl (ap column_of c.in_ok-changed-in-Some.ensures.column);
    }

pub returns-in-None : goal.returns-in-None
returns-in-None g c =
    let same : c.args.left.now.column.name ≡ c.in_ok-name.name = search rules in
    let dtype = word_dtype g.V.Word.word_type in
    record {
      column = IfOk-weaker c.null_rows.result _ _ (λ answer p.
          right_null (g.R.PairRule.value c.args.rule.now) dtype c.args.left.now.column c.args.right.now.column c.requires.one c.in-None.ensures.slot
          ∙ answer-same dtype _ _ _ _ answer.column same (ap (λ k. replicate k None) (sym c.len.ensures.rows)) p) c.null_rows.ensures.column;
    }
