use Rattle.std.proofs.Common.{◌∙◌, arith, refl}
use Rattle.std.proofs.lemmas.List.{length-map}
use Rattle.col_model.specs.Value.{integer_slot}
use Rattle.col_buffer.proofs.SlotLaws.{Reaches-le}
use Rattle.col_rule.proofs.BitLaws.{mapped_are}
use Rattle.col_rule.proofs.RuleLaws.{gap_of}
use Rattle.col_rule.proofs.chunk.change.Goals as goal

pub from_buffers-requires : goal.from_buffers-requires
from_buffers-requires g c = record {
  reach = Reaches-le _ _ _ c.in_ok-valid.ensures.bits.reach
      (omega (arith, c.in_ok-filled.ensures.len, length-map c.buffers-offset.result.0.now (λ x. integer_slot (g.R.SlotRule.value c.args.rule.now (g.T.Word.reading x)))));
}

pub returns-clause-slots : goal.returns-clause-slots
returns-clause-slots g c =
    let own = c.buffers-offset in
    c.in_ok-chunk.ensures.slots
    ∙ mapped_are g.T.Word.reading g.U.Word.reading (g.R.SlotRule.value c.args.rule.now) _ _ _ own.result.2 _ own.result.0.now c.in_ok-filled.filled.values.items c.args.chunk.now
    own.ensures.slots refl c.in_ok-filled.ensures.values (rw c.words_of-2.ensures.words at c.in_ok-valid.ensures.bits)

pub returns-clause-lost : goal.returns-clause-lost
returns-clause-lost g c =
    let own = c.buffers-offset in
    (rw c.words_of.ensures.words at c.first_gap-lost.ensures.row)
    ∙ gap_of g.T.Word.reading g.U.Word.reading (g.R.SlotRule.kept c.args.rule.now) _ _ own.result.2 _ own.result.0.now c.in_ok-filled.filled.values.items c.args.chunk.now
    own.ensures.slots refl c.in_ok-filled.ensures.keeps
