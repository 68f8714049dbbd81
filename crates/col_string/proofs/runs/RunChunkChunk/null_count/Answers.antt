use Rattle.col_string.proofs.RunLaws.{run_slots-null_count}
use Rattle.col_string.proofs.runs.RunChunkChunk.null_count.Goals as goal

pub returns : goal.returns
returns g c =
    let own = c.self.inside in
    record { nulls = run_slots-null_count g.R.Reading.reading _ (g.L.Chunk.slots own.leaf) own.ends.value.items own.offset own.len c.null_places.result c.args.self.now c.self.view_is (rw c.bits_of.ensures.words at c.null_places.ensures.count) }
