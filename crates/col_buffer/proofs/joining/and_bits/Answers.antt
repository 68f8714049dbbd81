use Rattle.std.proofs.Common.{arith, Some, ◌+◌, ◌*◌, ◌&&◌, ◌==◌, ◌∙◌, ap, ℕ, Bool}
use Rattle.std.specs.Prelude.{bit_and}
use Rattle.std.specs.Int.{bit_at}
use Rattle.std.proofs.lemmas.List.{length_push}
use Rattle.col_buffer.specs.Validity.{valid_at}
use Rattle.col_buffer.proofs.JoiningLaws.{word-step, read-step, and_one}
use Rattle.col_buffer.proofs.joining.and_bits.Goals as goal

pub loop-at-preserved : goal.loop-at-preserved
loop-at-preserved c =
    let right_word : ℕ = c.word_from.result in
    let at = c.loop-at.at in
    rw c.in_ok-push.ensures.items (record {
      count = omega (arith, length_push c.loop-at.bits.items (bit_and c.word_from-word.result right_word));
      same = word-step c.loop-at.bits.items c.args.len at (bit_and c.word_from-word.result right_word) (λ (k : ℕ). valid_at (Some c.args.left.now) (c.args.left_offset + k) && valid_at (Some c.args.right.now) (c.args.right_offset + k))
          c.loop-at.invariant.count c.loop-at.invariant.same
          (λ j small less. and_one c.word_from-word.result right_word j
          ∙ ap (λ (b : Bool). b && (bit_at right_word j == 1)) (read-step c.args.left.now c.args.left_offset c.args.len at c.word_from-word.result c.requires.left c.word_from-word.ensures.bits j small less)
          ∙ ap (λ (b : Bool). valid_at (Some c.args.left.now) (c.args.left_offset + (at * 64 + j)) && b) (read-step c.args.right.now c.args.right_offset c.args.len at right_word c.requires.right c.word_from.ensures.bits j small less));
    })
