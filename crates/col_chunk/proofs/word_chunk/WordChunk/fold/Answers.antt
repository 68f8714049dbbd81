use Rattle.std.proofs.Common.{arith, ap, ◌≡◌, ◌<◌, ◌+◌, ◌-◌, ◌∙◌, length, drop, rules, length-take, length-drop}
use Rattle.std.specs.Prelude.{fold}
use Rattle.std.specs.Option.{option_map}
use Rattle.col_model.specs.Words.{integers_of}
use Rattle.col_buffer.specs.Validity.{masked}
use Rattle.col_buffer.proofs.SlotLaws.{Reaches-le, size_is}
use Rattle.col_chunk.proofs.WordLaws.{rest_of_part}
use Rattle.col_chunk.proofs.word_chunk.WordChunk.fold.Goals as goal

pub fold_part-requires-clause-reach : goal.fold_part-requires-clause-reach
fold_part-requires-clause-reach g c =
    let own = c.self.inside in
    let size = size_is g.T.Word.reading _ own.values.value.items own.offset own.len c.args.self.now c.self.invariant.0 c.self.view_is in
    let long : length c.part-values.result.now ≡ own.len - c.args.skip = omega (arith, ap length c.part-values.ensures.values, length-take (own.len - c.args.skip) (drop (own.offset + c.args.skip) own.values.value.items), length-drop (own.offset + c.args.skip) own.values.value.items, c.self.invariant.0, size, c.requires.inside) in
    rw c.bits_of.ensures.words (Reaches-le _ (own.offset + own.len) (own.offset + c.args.skip + length c.part-values.result.now) c.self.invariant.1 (omega (arith, long, size, c.requires.inside)))

pub fold_part-requires-clause-fits : goal.fold_part-requires-clause-fits
fold_part-requires-clause-fits g c =
    let own = c.self.inside in
    let size = size_is g.T.Word.reading _ own.values.value.items own.offset own.len c.args.self.now c.self.invariant.0 c.self.view_is in
    let long : length c.part-values.result.now ≡ own.len - c.args.skip = omega (arith, ap length c.part-values.ensures.values, length-take (own.len - c.args.skip) (drop (own.offset + c.args.skip) own.values.value.items), length-drop (own.offset + c.args.skip) own.values.value.items, c.self.invariant.0, size, c.requires.inside) in
    let fits : own.offset + own.len < 18446744073709551616 = search rules in
    omega (arith, long, size, c.requires.inside, fits)

pub returns : goal.returns
returns g c =
    let own = c.self.inside in
    let rest = rest_of_part g.T.Word.reading _ (option_map (λ words. words.now) c.bits_of.result) own.values.value.items own.offset own.len c.args.skip c.args.self.now c.bits_of.ensures.words c.self.invariant.0 c.self.view_is c.requires.inside in
    record {
      value = c.fold_part.ensures.value
          ∙ ap (λ xs. fold g.S.Step.step (g.T.Word.reading c.args.total) (integers_of (masked g.T.Word.reading (option_map (λ words. words.now) c.bits_of.result) (own.offset + c.args.skip) xs))) c.part-values.ensures.values
          ∙ ap (λ ss. fold g.S.Step.step (g.T.Word.reading c.args.total) (integers_of ss)) rest;
    }
