use Rattle.col_buffer.proofs.SlotLaws.{on_ok}
use Rattle.col_chunk.proofs.WordLaws.{on_ok_both}
use Rattle.col_boolean.proofs.BitLaws.{cleared, written_in}
use Rattle.col_boolean.proofs.bit_chunk.BitChunk.set_slot.Goals as goal

pub returns-in-None-clause-ok : goal.returns-in-None-clause-ok
returns-in-None-clause-ok c =
    rw c.in-None.is (on_ok c.set_valid.result (cleared _ _ _ c.self.inside.offset c.self.inside.len c.args.index c.args.self.now c.self.view_is c.requires.inside) c.set_valid.ensures.ok)

pub returns-in-Some-clause-ok : goal.returns-in-Some-clause-ok
returns-in-Some-clause-ok c =
    rw c.in-Some.is (on_ok_both c.write_slot.result (λ values valid. written_in _ _ _ _ c.self.inside.offset c.self.inside.len c.args.index _ c.args.self.now c.self.view_is c.requires.inside values valid) c.write_slot.ensures.value c.write_slot.ensures.valid)
