use Rattle.col_civil.proofs.ItemLaws.{answers_refused}
use Rattle.col_civil.proofs.items.read_items.Goals as goal

pub returns-in-Err-clause-chunk : goal.returns-in-Err-clause-chunk
returns-in-Err-clause-chunk g c =
    answers_refused g.I.Iterator.next_gives c.args.items (g.R.ItemRule.read c.args.rule.now) c.loop-item.yielded c.in-Some.item
    c.loop-item.builder c.add_item.new.builder _ c.loop-item.item-iterator _ c.in-Err.refusal
    c.into_iter-item-iterator.ensures.into_iter_gives c.loop-item.yielded_by c.in-Some.ensures.steps c.loop-item.invariant.slots c.in-Err.ensures.slots
