use Rattle.std.proofs.Common.{◌≡◌, rules, sym, ◌∙◌, false, FitsSigned, w64, to_z-of_z}
use Rattle.col_text.specs.declared.line_error.LineError.TheVariants.{Bad}
use Rattle.col_text.specs.Slots.{column_slot_in, ends_chunk}
use Rattle.col_text.proofs.SlotLemmas.{slot-step, front_tick-step, front_tick-refused, tick-no_bar}
use Rattle.col_text.proofs.LengthLemmas.{slot-front}
use Rattle.col_text.proofs.slots.push_front.Goals as goal

pub returns-in-Ok-clause-step : goal.returns-in-Ok-clause-step
returns-in-Ok-clause-step g c =
    let fits : FitsSigned w64 c.in-Some.tick = search (rules, c.front_tick.type_inv) in
    let back = to_z-of_z fits in
    front_tick-step g.V.Values.range _ _ _ _ c.in-Some.tick c.in-Some.ensures.read
    (rw back at c.in-Ok.ensures.slots)

pub returns-in-Ok-clause-front : goal.returns-in-Ok-clause-front
returns-in-Ok-clause-front g c = λ n.
    let read = c.in-Some.ensures.read in
    slot-front n read.token c.in-Some.rest.now c.args.line.now read.words (tick-no_bar read.token c.in-Some.tick read.value)

pub returns-in-Err-clause-bad : goal.returns-in-Err-clause-bad
returns-in-Err-clause-bad g c = λ e.
    let bad : c.in-Err.error ≡ Bad = cc in
    let fits : FitsSigned w64 c.in-Some.tick = search (rules, c.front_tick.type_inv) in
    let back = to_z-of_z fits in
    front_tick-refused g.V.Values.range _ _ _ _ c.in-Some.tick c.in-Err.error c.in-Some.ensures.read
    (rw back at c.in-Err.ensures.slots) bad

pub returns-in-Ok-push_token-clause-step : goal.returns-in-Ok-push_token-clause-step
returns-in-Ok-push_token-clause-step g c =
    let slot : ends_chunk c.in-Some-first_token.token.now ≡ false = sym c.ends_chunk.ensures.end ∙ c.if-ends_chunk.false in
    slot-step (column_slot_in g.V.Values.range) _ _ c.in-Some-first_token.token.now c.in-Some-first_token.rest.now c.args.line.now c.in-Some-first_token.ensures.first slot c.in-Ok-push_token.ensures.slots
