use Rattle.std.proofs.Common.{◌∙◌}
use Rattle.col_chunk.proofs.WordLaws.{valid_in}
use Rattle.col_chunk.proofs.word_chunk.WordChunkChunk.is_valid.Goals as goal

pub returns : goal.returns
returns g c =
    let own = c.self.inside in
    record { valid = c.is_valid.ensures.valid ∙ valid_in g.T.Word.reading _ own.values.value.items own.offset own.len c.args.index c.args.self.now c.self.invariant.0 c.self.view_is c.requires.inside }
