use Rattle.std.proofs.Common.{arith, ◌≡◌, ◌+◌, ◌^◌, length}
use Rattle.col_string.specs.Texts.{optional_slots}
use Rattle.col_chunk.proofs.ItemLaws.{read_too_many}
use Rattle.col_string.proofs.binary.read_items.Goals as goal

pub returns-then-count-eq-ROW_LIMIT-clause-chunk :
    goal.returns-then-count-eq-ROW_LIMIT-clause-chunk
returns-then-count-eq-ROW_LIMIT-clause-chunk g c =
    let rows : c.loop-item.count + 1 ≡ length c.loop-item.yielded + 1 = omega (arith, c.loop-item.invariant.count) in
    let limit : c.loop-item.count + 1 ≡ 2 ^ 32 = omega (arith, c.if-count-eq-ROW_LIMIT.true) in
    read_too_many g.I.Iterator.next_gives c.args.items (optional_slots (λ item. item.now)) c.into_iter-item-iterator.result c.loop-item.item-iterator c.next.new.self c.loop-item.yielded c.in-Some.item (c.loop-item.count + 1)
    c.into_iter-item-iterator.ensures.into_iter_gives c.loop-item.yielded_by c.in-Some.ensures.steps rows limit
