use Rattle.std.proofs.Common.{◌≡◌}
use Rattle.std.specs.Prelude.{string_bytes}
use Rattle.col_text.specs.Plans.{plan_text}
use Rattle.col_text.proofs.plan.plan_text.Given as goal

abbrev pub invariant-loop-node : goal.invariant-loop-node
invariant-loop-node l = string_bytes l.text ≡ plan_text l.plan l.node
