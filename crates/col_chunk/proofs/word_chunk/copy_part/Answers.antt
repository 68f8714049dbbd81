use Rattle.std.proofs.Common.{ap, ◌≡◌, ◌∙◌, length, rules}
use Rattle.col_buffer.specs.Validity.{masked}
use Rattle.col_buffer.proofs.SlotLaws.{on_ok}
use Rattle.col_chunk.proofs.WordLaws.{copied}
use Rattle.col_chunk.proofs.word_chunk.copy_part.Goals as goal

pub returns-clause-slots : goal.returns-clause-slots
returns-clause-slots g c =
    let place : c.len-place.result ≡ length c.args.values.now.items = search rules in
    on_ok c.append_range.result (λ e. ap (masked g.T.Word.reading _ 0) e
    ∙ copied g.T.Word.reading _ _ _ c.args.values.now.items c.args.from.now c.len-place.result c.args.start c.args.len place c.requires.inside c.in_ok-add_range.ensures.ok) c.append_range.ensures.ok
