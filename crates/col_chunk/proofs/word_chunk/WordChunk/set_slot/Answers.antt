use Rattle.std.proofs.Common.{true}
use Rattle.col_buffer.proofs.SlotLaws.{clear_part, set_part, on_ok}
use Rattle.col_chunk.proofs.WordLaws.{on_ok_both}
use Rattle.col_chunk.proofs.word_chunk.WordChunk.set_slot.Goals as goal

pub returns-in-None-clause-ok : goal.returns-in-None-clause-ok
returns-in-None-clause-ok g c =
    rw c.in-None.is (on_ok c.set_valid.result (clear_part g.T.Word.reading _ _ c.self.inside.values.value.items c.self.inside.offset c.self.inside.len c.args.index c.args.self.now c.self.invariant.0 c.self.view_is c.requires.inside) c.set_valid.ensures.ok)

pub returns-in-Some-clause-ok : goal.returns-in-Some-clause-ok
returns-in-Some-clause-ok g c =
    rw c.in-Some.is (on_ok_both c.write_slot.result (λ values valid. set_part g.T.Word.reading _ _ true c.self.inside.values.value.items _ c.self.inside.offset c.self.inside.len c.args.index _ c.args.self.now c.self.invariant.0 c.self.view_is c.requires.inside values valid) c.write_slot.ensures.values c.write_slot.ensures.valid)
