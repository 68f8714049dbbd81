use Rattle.std.proofs.Common.{Vec, Global, ap, ◌∙◌, ◌+◌, get_or}
use Rattle.col_buffer.proofs.SlotLaws.{got}
use Rattle.col_chunk.proofs.word_chunk.WordChunkChunk.push_onto.Goals as goal

pub returns : goal.returns
returns g c =
    let is = c.index.ensures ∙ ap (λ (v : Vec g.row.T.Denot Global). get_or v.items (c.self.inside.offset + c.args.index) c.index.result.now) c.deref.ensures in
    let slot = got g.T.Word.reading _ c.self.inside.values.value.items c.self.inside.offset c.self.inside.len c.args.index c.args.self.now c.is_valid-valid.result c.index.result.now c.self.invariant.0 c.self.view_is c.requires.inside c.is_valid-valid.ensures.valid is in
    record { slots = rw (← c.builder.view_is, ← slot) c.push_slot.ensures.slots }
