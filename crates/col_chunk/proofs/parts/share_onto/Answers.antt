use Rattle.std.proofs.Common.{arith}
use Rattle.col_chunk.specs.Chunks.{joined}
use Rattle.col_chunk.proofs.Pieces.{step-skip, step-take, joined-push}
use Rattle.col_chunk.proofs.parts.share_onto.Goals as goal

pub loop-chunk-preserved-then-skip-size : goal.loop-chunk-preserved-then-skip-size
loop-chunk-preserved-then-skip-size g c =
    let s = step-skip g.C.Chunk.slots c.args.chunks.now c.loop-chunk.chunk-index c.chunk-item.result (joined g.C.Chunk.slots c.loop-chunk.parts.items) _ c.loop-chunk.skip c.loop-chunk.left c.loop-chunk-test.true c.chunk-item.is (omega arith) c.loop-chunk.invariant.room c.loop-chunk.invariant.whole in
    rw c.len-size.ensures.len (record { room = s.0; whole = s.1 })

pub loop-chunk-preserved : goal.loop-chunk-preserved
loop-chunk-preserved g c =
    let s = step-take g.C.Chunk.slots c.args.chunks.now c.loop-chunk.chunk-index c.chunk-item.result (joined g.C.Chunk.slots c.loop-chunk.parts.items) _ c.loop-chunk.skip c.loop-chunk.left c.loop-chunk-test.true c.chunk-item.is (omega arith) c.loop-chunk.invariant.room c.loop-chunk.invariant.whole in
    rw (c.in_ok-push.ensures.items, joined-push, c.in_ok-share.ensures.slots, c.min-taken.ensures, c.len-size.ensures.len) (record { room = s.0; whole = s.1 })
