use Rattle.col_chunk.proofs.WordLaws.{nulls_in_part}
use Rattle.col_chunk.proofs.word_chunk.WordChunkChunk.null_count.Goals as goal

pub returns : goal.returns
returns g c =
    let own = c.self.inside in
    record { nulls = nulls_in_part g.T.Word.reading _ own.values.value.items own.offset own.len c.null_places.result c.args.self.now c.self.invariant.0 c.self.view_is (rw c.bits_of.ensures.words at c.null_places.ensures.count) }
