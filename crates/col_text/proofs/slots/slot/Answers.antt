use Rattle.std.proofs.Common.{◌∙◌, sym, rules, FitsSigned, w64, to_z-of_z}
use Rattle.col_text.proofs.SlotLemmas.{column_slot-tick}
use Rattle.col_text.proofs.slots.slot.Goals as goal

pub returns-in-Some : goal.returns-in-Some
returns-in-Some g c =
    let fits : FitsSigned w64 c.in-Some.tick = search (rules, c.tick.type_inv) in
    let back = to_z-of_z fits in
    record {
      slot = (rw back at c.tick_slot.ensures.slot)
          ∙ column_slot-tick g.V.Values.range c.args.token.now c.in-Some.tick (sym c.in-Some.is ∙ c.tick.ensures.value);
    }
