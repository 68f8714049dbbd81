use Rattle.std.proofs.Common.{◌∙◌}
use Rattle.col_boolean.proofs.BitLaws.{valid_in}
use Rattle.col_boolean.proofs.bit_chunk.BitChunkChunk.is_valid.Goals as goal

pub returns : goal.returns
returns c =
    record { valid = c.is_valid.ensures.valid ∙ valid_in _ _ c.self.inside.offset c.self.inside.len c.args.index c.args.self.now c.self.view_is c.requires.inside }
