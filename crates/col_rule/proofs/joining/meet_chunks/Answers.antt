use Rattle.std.proofs.Common.{arith, ap, ◌+◌, drop, length, length-drop}
use Rattle.std.proofs.lemmas.List.{length-append}
use Rattle.col_chunk.specs.Chunks.{joined, rows_left}
use Rattle.col_rule.proofs.ArrayLaws.{more_chunks, meet-step}
use Rattle.col_rule.proofs.joining.meet_chunks.Goals as goal

pub loop-chunk-preserved : goal.loop-chunk-preserved
loop-chunk-preserved g c =
    let f = g.R.PairRule.value c.args.rule.now in
    let i = c.loop-chunk.chunk-index in
    let chunk = c.chunk-item.result in
    let done = c.loop-chunk.builder in
    let now = rows_left c.loop-chunk.place.chunk c.loop-chunk.place.skip c.args.right.now in
    let more = more_chunks c.args.left.now i chunk c.loop-chunk-test.true c.chunk-item.is in
    let rest = joined (λ c. c) (drop (i + 1) c.args.left.now) in
    let here = rw c.len-len.ensures.len at c.in_ok-other.ensures.slots in
    let behind = rw c.len-len.ensures.len at c.in_ok-other.ensures.rest in
    let part = c.in_ok-meet.ensures.slots in
    record {
      room = omega (arith, ap length behind, length-drop (length chunk) now, ap length more, length-append chunk rest, c.loop-chunk.invariant.room);
      slots = meet-step f c.args.left.now done _ i chunk _ _ now _ _ c.loop-chunk-test.true c.chunk-item.is part here behind c.in_ok-copy_all.ensures.slots c.loop-chunk.invariant.slots;
    }
