use Rattle.std.proofs.Common.{◌∙◌, arith, refl}
use Rattle.col_buffer.proofs.SlotLaws.{Reaches-le}
use Rattle.col_rule.proofs.RuleLaws.{meets_are, length-met}
use Rattle.col_rule.proofs.chunk.meet.Goals as goal

pub both-requires-2-clause-left : goal.both-requires-2-clause-left
both-requires-2-clause-left g c =
    let left = c.buffers-left_offset in
    let right = c.buffers-right_offset in
    rw c.words_of.ensures.words (Reaches-le _ _ _ c.in_ok-filled.ensures.valid
    (omega (arith, c.requires.equal_lengths, left.ensures.len, right.ensures.len, length-met (g.R.PairRule.value c.args.rule.now) g.T.Word.reading g.U.Word.reading left.result.0.now right.result.0.now)))

pub from_buffers-requires : goal.from_buffers-requires
from_buffers-requires g c =
    let left = c.buffers-left_offset in
    let right = c.buffers-right_offset in
    record {
      reach = Reaches-le _ _ _ c.in_ok-valid.ensures.bits.reach
          (omega (arith, c.in_ok-filled.ensures.len, length-met (g.R.PairRule.value c.args.rule.now) g.T.Word.reading g.U.Word.reading left.result.0.now right.result.0.now));
    }

pub returns : goal.returns
returns g c =
    let left = c.buffers-left_offset in
    let right = c.buffers-right_offset in
    record {
      slots = c.in_ok-chunk.ensures.slots
          ∙ meets_are g.T.Word.reading g.U.Word.reading g.V.Word.reading (g.R.PairRule.value c.args.rule.now) _ _ _ _ _ left.result.2 right.result.2 _ left.result.0.now right.result.0.now c.in_ok-filled.filled.values.items c.args.left.now c.args.right.now
          left.ensures.slots right.ensures.slots refl (omega (arith, c.requires.equal_lengths, left.ensures.len, right.ensures.len)) c.in_ok-filled.ensures.values c.in_ok-sides.ensures.bits
          (rw (c.words_of.ensures.words, c.words_of-2.ensures.words) at c.in_ok-valid.ensures.bits);
    }
