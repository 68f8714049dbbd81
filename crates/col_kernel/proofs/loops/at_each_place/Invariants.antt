use Rattle.std.proofs.Common.{◌≡◌, ◌++◌, drop}
use Rattle.col_kernel.specs.Slots.{slots_of, zip_slots}
use Rattle.col_kernel.proofs.loops.at_each_place.Given as goal

-- what is done and what is left make the whole
abbrev pub invariant-loop-i : goal.invariant-loop-i
invariant-loop-i g l =
    let reading = g.T.Word.reading in
    let formula = g.F.PairFormula.formula in
    slots_of reading l.answer.items ++ zip_slots formula (slots_of reading (drop l.i l.left))
    (slots_of reading (drop l.i l.right))
    ≡ zip_slots formula (slots_of reading l.left) (slots_of reading l.right)
