use Rattle.col_boolean.proofs.BitLaws.{pushed}
use Rattle.col_boolean.proofs.bit_chunk.BitBuilder.push_slot.Goals as goal

pub returns : goal.returns
returns c =
    record { slots = pushed _ _ _ _ c.self.inside.len c.args.value c.args.valid c.args.self.now c.self.view_is c.in_ok-add_valid.ensures.ok c.in_ok-add_valid-2.ensures.ok }
