use Rattle.col_expr.proofs.InputsLemmas.{All-pushed, length-pushed}
use Rattle.col_expr.proofs.inputs.Inputs.push.Goals as goal

pub invariant_of-self : goal.invariant_of-self
invariant_of-self c = (
  length-pushed _ _ _ _ _ c.push.ensures.items c.self.view_is c.requires.room,
  All-pushed _ _ _ _ c.push.ensures.items c.self.invariant.1 c.known.ensures.valid,
)
