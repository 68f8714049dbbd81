use Rattle.std.proofs.Common.{arith, ap, ◌∙◌, ◌+◌, ◌≡◌, ◌≤◌, drop, length, length-drop, length-take}
use Rattle.std.proofs.lemmas.List.{length-append}
use Rattle.col_chunk.specs.Chunks.{joined}
use Rattle.col_rule.proofs.ArrayLaws.{more_chunks, parts-step, lengths-step}
use Rattle.col_rule.proofs.array.cut_like.Goals as goal

pub loop-chunk-preserved : goal.loop-chunk-preserved
loop-chunk-preserved g c =
    let like = c.args.like.now in
    let whole = c.args.whole.now in
    let i = c.loop-chunk.chunk-index in
    let chunk = c.chunk-item.result in
    let inside = c.loop-chunk-test.true in
    let more = more_chunks like i chunk inside c.chunk-item.is in
    let room : c.loop-chunk.start + length chunk ≤ length whole = omega (arith, ap length more, length-append chunk (joined (λ c. c) (drop (i + 1) like)), c.loop-chunk.invariant.start, c.len-rows.ensures.len) in
    let part = rw c.len-len.ensures.len at c.in_ok-share.ensures.slots in
    let long : length c.in_ok-share.field-0 ≡ length chunk = ap length part ∙ omega (arith, length-take (length chunk) (drop c.loop-chunk.start whole), length-drop c.loop-chunk.start whole, room) in
    rw c.len-len.ensures.len (record {
      slots = parts-step whole c.loop-chunk.parts.items _ c.loop-chunk.start (length chunk) _ part c.in_ok-push.ensures.items c.loop-chunk.invariant.slots;
      lengths = lengths-step like c.loop-chunk.parts.items _ i chunk _ inside c.chunk-item.is long c.in_ok-push.ensures.items c.loop-chunk.invariant.lengths;
      start = omega (arith, ap length more, length-append chunk (joined (λ c. c) (drop (i + 1) like)), c.loop-chunk.invariant.start);
    })
