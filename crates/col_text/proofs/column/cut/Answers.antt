use Rattle.std.proofs.Common.{◌≡◌, ◌∙◌, ◌+◌, ◌≤◌, arith, ap, length, drop, length-drop, length-take}
use Rattle.std.specs.Prelude.{slice_index_or}
use Rattle.col_text.proofs.LengthLemmas.{lengths-step, parts-step, sum-drop}
use Rattle.col_text.proofs.column.cut.Goals as goal

pub overflow_add-start : goal.overflow_add-start
overflow_add-start g c =
    omega (arith, sum-drop c.args.lengths.now c.loop-len.len-index c.loop-len-test.true, c.loop-len.invariant.start)

pub loop-len-preserved : goal.loop-len-preserved
loop-len-preserved g c =
    let lengths = c.args.lengths.now in
    let whole = c.args.whole.now in
    let i = c.loop-len.len-index in
    let len = slice_index_or lengths i 0 in
    let left = sum-drop lengths i c.loop-len-test.true in
    let room : c.loop-len.start + len ≤ length whole = omega (arith, left, c.loop-len.invariant.start, c.len-rows.ensures.len) in
    let part = c.in_ok-share.ensures.slots in
    let long : length c.in_ok-share.field-0 ≡ len = ap length part ∙ omega (arith, length-take len (drop c.loop-len.start whole), length-drop c.loop-len.start whole, room) in
    record {
      slots = parts-step whole c.loop-len.parts.items _ c.loop-len.start len _ part c.in_ok-push.ensures.items c.loop-len.invariant.slots;
      lengths = lengths-step lengths c.loop-len.parts.items _ i _ c.loop-len-test.true long c.in_ok-push.ensures.items c.loop-len.invariant.lengths;
      start = omega (arith, left, c.loop-len.invariant.start);
    }
