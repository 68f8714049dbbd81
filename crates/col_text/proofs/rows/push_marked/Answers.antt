use Rattle.col_text.proofs.RowLemmas.{marked-step}
use Rattle.col_text.proofs.rows.push_marked.Goals as goal

pub loop-at-preserved : goal.loop-at-preserved
loop-at-preserved g c = record {
  text = marked-step g.W.Word.reading c.args.words.now c.args.offset c.loop-at.at c.args.values.now c.index-values-at.result c.is_set-valid.result
      c.loop-at.text.items _ _ c.loop-at-test.true c.index-values-at.is c.is_set-valid.ensures.set c.in_ok-push_slot.ensures.text c.loop-at.invariant.text;
  end = c.in_ok-push_slot.ensures.end;
}
