use Rattle.std.proofs.Common.{get_or}
use Rattle.std.specs.Prelude.{None}
use Rattle.col_buffer.proofs.SlotLaws.{pushed}
use Rattle.col_string.proofs.RunLaws.{replicate-read}
use Rattle.col_string.proofs.runs.RunChunkChunk.repeat.Goals as goal

pub loop-preserved : goal.loop-preserved
loop-preserved g c =
    pushed _ _ _ _ _ _ c.in_ok-push_onto.ensures.slots (replicate-read c.args.len c.loop.counter (get_or c.args.self.now c.args.index None) c.loop-test.true) c.loop.invariant
