use Rattle.std.proofs.Common.{◌∙◌}
use Rattle.col_string.proofs.RunLaws.{run_slots-valid}
use Rattle.col_string.proofs.runs.RunChunkChunk.is_valid.Goals as goal

pub returns : goal.returns
returns g c =
    let own = c.self.inside in
    record { valid = c.is_valid.ensures.valid ∙ run_slots-valid g.R.Reading.reading _ (g.L.Chunk.slots own.leaf) own.ends.value.items own.offset own.len c.args.index c.args.self.now c.self.view_is c.requires.inside }
