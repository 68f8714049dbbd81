use Rattle.std.proofs.Common.{arith, ◌+◌, None}
use Rattle.col_buffer.proofs.SlotLaws.{pushed, slots-read}
use Rattle.col_string.proofs.runs.RunChunkChunk.copy_onto.Goals as goal

pub loop-index-preserved : goal.loop-index-preserved
loop-index-preserved g c =
    pushed _ _ _ _ _ _ c.in_ok-push_onto.ensures.slots (slots-read c.args.self.now c.loop-index.index (c.args.offset + c.args.len) None (omega arith) (omega arith)) c.loop-index.invariant
