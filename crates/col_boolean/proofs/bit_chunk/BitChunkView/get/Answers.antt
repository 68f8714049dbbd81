use Rattle.std.proofs.Common.{true, false}
use Rattle.col_boolean.proofs.BitLaws.{got}
use Rattle.col_boolean.proofs.bit_chunk.BitChunkView.get.Goals as goal

pub returns-then-valid : goal.returns-then-valid
returns-then-valid c =
    record { slot = got _ _ c.self.inside.offset c.self.inside.len c.args.index c.args.self.now true c.is_valid-value.result c.self.view_is c.requires.inside c.if-valid.ensures.valid c.is_valid-value.ensures.valid }

pub returns-else-valid : goal.returns-else-valid
returns-else-valid c =
    record { slot = got _ _ c.self.inside.offset c.self.inside.len c.args.index c.args.self.now false c.is_valid-value.result c.self.view_is c.requires.inside c.if-valid.ensures.valid c.is_valid-value.ensures.valid }
