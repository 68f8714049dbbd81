use Rattle.std.proofs.Common.{ap, sym, ◌∙◌, refl, take, drop}
use Rattle.std.specs.List.{list_all}
use Rattle.col_model.specs.Words.{is_word_slot}
use Rattle.col_buffer.proofs.SlotLaws.{all-masked}
use Rattle.col_chunk.proofs.word_chunk.WordChunkChunk.known.Goals as goal

pub returns : goal.returns
returns g c =
    record { fit = ap (list_all (is_word_slot g.T.Word.word_type)) (sym c.self.view_is) ∙ all-masked g.T.Word.reading (is_word_slot g.T.Word.word_type) refl g.met.T.Word.reading_in_range _ c.self.inside.offset (take c.self.inside.len (drop c.self.inside.offset c.self.inside.values.value.items)) }
