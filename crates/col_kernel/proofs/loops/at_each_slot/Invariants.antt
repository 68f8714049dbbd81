use Rattle.std.proofs.Common.{◌≡◌, ◌++◌, drop}
use Rattle.col_kernel.specs.Slots.{slots_of, map_slots}
use Rattle.col_kernel.proofs.loops.at_each_slot.Given as goal

-- what is done and what is left make the whole
abbrev pub invariant-loop-value : goal.invariant-loop-value
invariant-loop-value g l =
    let reading = g.T.Word.reading in
    let formula = g.F.SlotFormula.formula l.formula in
    slots_of reading l.answer.items ++ map_slots formula
    (slots_of reading (drop l.value-index l.values))
    ≡ map_slots formula (slots_of reading l.values)
