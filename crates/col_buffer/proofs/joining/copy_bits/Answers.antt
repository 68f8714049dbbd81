use Rattle.std.proofs.Common.{arith, Some, ◌+◌, ℕ}
use Rattle.std.proofs.lemmas.List.{length_push}
use Rattle.col_buffer.specs.Validity.{valid_at}
use Rattle.col_buffer.proofs.JoiningLaws.{word-step, read-step}
use Rattle.col_buffer.proofs.joining.copy_bits.Goals as goal

pub loop-at-preserved : goal.loop-at-preserved
loop-at-preserved c =
    rw c.in_ok-push.ensures.items (record {
      count = omega (arith, length_push c.loop-at.bits.items c.word_from.result);
      same = word-step c.loop-at.bits.items c.args.len c.loop-at.at c.word_from.result (λ (k : ℕ). valid_at (Some c.args.words.now) (c.args.offset + k))
          c.loop-at.invariant.count c.loop-at.invariant.same
          (read-step c.args.words.now c.args.offset c.args.len c.loop-at.at c.word_from.result c.requires.inside c.word_from.ensures.bits);
    })
