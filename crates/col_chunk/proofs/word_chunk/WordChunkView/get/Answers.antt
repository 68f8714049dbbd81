use Rattle.std.proofs.Common.{Vec, Global, ap, ◌∙◌, ◌+◌, get_or, true, false}
use Rattle.col_buffer.proofs.SlotLaws.{got}
use Rattle.col_chunk.proofs.word_chunk.WordChunkView.get.Goals as goal

pub returns-then-valid : goal.returns-then-valid
returns-then-valid g c =
    let is = c.index-value.ensures ∙ ap (λ (v : Vec g.row.T.Denot Global). get_or v.items (c.self.inside.offset + c.args.index) c.index-value.result.now) c.deref.ensures in
    record { slot = got g.T.Word.reading _ c.self.inside.values.value.items c.self.inside.offset c.self.inside.len c.args.index c.args.self.now true c.index-value.result.now c.self.invariant.0 c.self.view_is c.requires.inside c.if-valid.ensures.valid is }

pub returns-else-valid : goal.returns-else-valid
returns-else-valid g c =
    let is = c.index-value.ensures ∙ ap (λ (v : Vec g.row.T.Denot Global). get_or v.items (c.self.inside.offset + c.args.index) c.index-value.result.now) c.deref.ensures in
    record { slot = got g.T.Word.reading _ c.self.inside.values.value.items c.self.inside.offset c.self.inside.len c.args.index c.args.self.now false c.index-value.result.now c.self.invariant.0 c.self.view_is c.requires.inside c.if-valid.ensures.valid is }
