use Rattle.col_boolean.proofs.BitLaws.{nulls_in}
use Rattle.col_boolean.proofs.bit_chunk.BitChunkChunk.null_count.Goals as goal

pub returns : goal.returns
returns c =
    record { nulls = nulls_in _ _ c.self.inside.offset c.self.inside.len c.null_places.result c.args.self.now c.self.view_is (rw c.bits_of.ensures.words at c.null_places.ensures.count) }
