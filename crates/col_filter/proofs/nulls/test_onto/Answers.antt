use Rattle.std.proofs.Common.{◌<◌, arith, length}
use Rattle.col_filter.proofs.TestLaws.{step-slot}
use Rattle.col_filter.proofs.nulls.test_onto.Goals as goal

pub loop-row-preserved : goal.loop-row-preserved
loop-row-preserved g c =
    let inside : c.loop-row.row < length (g.C.Chunk.slots c.args.chunk.now) = omega (arith, c.loop-row-test.true, c.loop-row.auto.row-end, c.len-row-end.ensures.len) in
    step-slot (g.C.Chunk.slots c.args.chunk.now) c.loop-row.builder c.push.new.self _ c.loop-row.row c.args.valid c.is_valid.result c.passes.result
    inside c.is_valid.ensures.valid c.passes.ensures.passes c.in_ok-push.ensures.slots c.loop-row.invariant
