use Rattle.std.proofs.Common.{arith}
use Rattle.std.specs.Option.{option_map}
use Rattle.col_buffer.proofs.BitLaws.{range-step}
use Rattle.col_buffer.proofs.validity.append_bits.Goals as goal

pub loop-at-preserved : goal.loop-at-preserved
loop-at-preserved c =
    let s = range-step c.loop-at.words.items _ c.args.words.now.items (option_map (λ words. words.now) c.args.from) c.args.place c.args.start c.args.len c.loop-at.at c.word_at-word.result
    c.in_ok-push_word.ensures.ok c.word_at-word.ensures.bits c.loop-at.invariant.here c.loop-at.invariant.others in
    record { reach = omega (arith, c.in_ok-push_word.ensures.ok.reach); here = s.0; others = s.1 }
