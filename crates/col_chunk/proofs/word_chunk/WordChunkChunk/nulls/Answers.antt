use Rattle.std.proofs.Common.{◌∙◌, ◌/◌, ◌+◌}
use Rattle.col_buffer.proofs.SlotLaws.{nulls_are}
use Rattle.col_chunk.proofs.word_chunk.WordChunkChunk.nulls.Goals as goal

pub returns : goal.returns
returns g c =
    record { slots = c.in_ok-chunk.ensures.slots ∙ nulls_are g.T.Word.reading c.in_ok-values.values.items c.in_ok-words.words.items c.wrap_i128.result c.args.len (c.args.len / 64 + 1) c.in_ok-values.ensures.items c.in_ok-words.ensures.items }
