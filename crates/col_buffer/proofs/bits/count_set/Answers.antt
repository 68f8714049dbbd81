use Rattle.std.proofs.Common.{arith, ap, ◌≡◌, sym, ◌∙◌, ◌+◌, ◌-◌, ◌*◌, Some, true, false, add-zero}
use Rattle.std.proofs.lemmas.Nat.{ones-le}
use Rattle.col_buffer.specs.Validity.{valid_count}
use Rattle.col_buffer.proofs.BitLaws.{valid_count-le, count-more, valid_count-ones, read-word, count-step}
use Rattle.col_buffer.proofs.bits.count_set.Goals as goal
use Rattle.col_buffer.proofs.bits.count_set.Goals.{then-is_set, else-is_set}

pub overflow_add-count : goal.overflow_add-count
overflow_add-count c = omega (arith, valid_count-le (Some c.args.words.now) c.args.offset (c.loop-at.at * 64), c.loop-at.invariant, ones-le 64 c.word_from.result c.word_from.type_inv, c.loop-at-test.true, c.ranges.len.fits)

pub loop-at-preserved : goal.loop-at-preserved
loop-at-preserved c =
    let words = Some c.args.words.now in
    let at = c.loop-at.at in
    let ones = valid_count-ones words 64 (c.args.offset + at * 64) c.word_from.result c.word_from.type_inv (read-word c.args.words.now (c.args.offset + at * 64) c.word_from.result (omega (arith, c.requires.inside, c.loop-at.auto.at-end, c.loop-at-test.true)) c.word_from.ensures.bits) in
    let is : at * 64 + 64 ≡ (at + 1) * 64 = omega arith in
    count-more words c.args.offset (at * 64) 64 c.loop-at.count _ c.loop-at.invariant ones ∙ ap (valid_count words c.args.offset) is

pub overflow_add-count-then-is_set : goal.overflow_add-count-then-is_set
overflow_add-count-then-is_set c = omega (arith, valid_count-le (Some c.args.words.now) c.args.offset (c.loop-place.place - c.args.offset), c.loop-place.invariant.counted, c.loop-place.invariant.behind)

pub loop-place-preserved : goal.loop-place-preserved
loop-place-preserved c =
    let words = Some c.args.words.now in
    let step = count-step words c.args.offset c.loop-place.place c.loop-place.count in
    record {
      behind = omega (arith, c.loop-place.invariant.behind);
      counted = elim c.if-is_set.branch [
        | then-is_set w ↦ w.count-is ∙ step true c.loop-place.invariant.behind c.loop-place.invariant.counted (sym w.if-is_set.true ∙ c.is_set.ensures.set)
        | else-is_set w ↦ w.count-is ∙ sym (add-zero c.loop-place.count) ∙ step false c.loop-place.invariant.behind c.loop-place.invariant.counted (sym w.if-is_set.false ∙ c.is_set.ensures.set)
      ];
    }
