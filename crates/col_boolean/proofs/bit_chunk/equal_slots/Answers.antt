use Rattle.std.proofs.Common.{◌∙◌}
use Rattle.std.proofs.lemmas.Result.{IfOk-weaker}
use Rattle.col_boolean.proofs.BitLaws.{null-bit_slots, value-bit_slots}
use Rattle.col_boolean.proofs.bit_chunk.equal_slots.Goals as goal

pub returns-in_ok-validity-in-None : goal.returns-in_ok-validity-in-None
returns-in_ok-validity-in-None c =
    rw c.in-None.is (record { slots = IfOk-weaker c.from_bits.result _ _ (λ chunk p. p ∙ null-bit_slots _ c.args.len c.in_ok-validity-in-None.ensures.same) c.from_bits.ensures.slots })

pub returns-in_ok-values-in-Some : goal.returns-in_ok-values-in-Some
returns-in_ok-values-in-Some c =
    rw c.in-Some.is (record { slots = IfOk-weaker c.from_bits-in-Some.result _ _ (λ chunk p. p ∙ value-bit_slots _ c.in-Some.value c.args.len c.in_ok-values-in-Some.ensures.same) c.from_bits-in-Some.ensures.slots })
