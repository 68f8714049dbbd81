use Rattle.std.proofs.Common.{arith, ap, ◌+◌, length, drop}
use Rattle.std.proofs.lemmas.List.{length-append}
use Rattle.col_model.specs.Value.{on_slot}
use Rattle.col_chunk.specs.Chunks.{joined}
use Rattle.col_rule.proofs.ArrayLaws.{more_chunks, slots-step, lost-step, lost-within}
use Rattle.col_rule.proofs.array.change_chunks.Goals as goal

pub or_later-lost-requires-clause-inside : goal.or_later-lost-requires-clause-inside
or_later-lost-requires-clause-inside g c =
    rw (c.in_ok-changed.ensures.lost, c.len-len.ensures.len) (lost-within (on_slot (g.R.SlotRule.kept c.args.rule.now)) c.chunk-item.result)

pub loop-chunk-preserved : goal.loop-chunk-preserved
loop-chunk-preserved g c =
    let value = g.R.SlotRule.value c.args.rule.now in
    let chunks = c.args.chunks.now in
    let i = c.loop-chunk.chunk-index in
    let chunk = c.chunk-item.result in
    let inside = c.loop-chunk-test.true in
    let more = more_chunks chunks i chunk inside c.chunk-item.is in
    let part = c.in_ok-changed.ensures.slots in
    record {
      slots = slots-step value chunks c.loop-chunk.builder _ i chunk _ inside c.chunk-item.is part c.in_ok-copy_all.ensures.slots c.loop-chunk.invariant.slots;
      lost = rw (c.or_later-lost.ensures.row, c.in_ok-changed.ensures.lost, c.len-len.ensures.len) (lost-step (on_slot (g.R.SlotRule.kept c.args.rule.now)) chunks i c.loop-chunk.start chunk c.loop-chunk.lost inside c.chunk-item.is c.loop-chunk.invariant.lost);
      start = omega (arith, c.len-len.ensures.len, ap length more, length-append chunk (joined (λ c. c) (drop (i + 1) chunks)), c.loop-chunk.invariant.start);
    }
