use Rattle.std.specs.Prelude.{ℤ}
use Rattle.std.specs.Int.{w64}
use Rattle.std.proofs.lemmas.Int.{to_z-of_z}
use Rattle.col_model.proofs.ticks.datetime_by.Goals as goal

pub returns-in-Finer-clause-value : goal.returns-in-Finer-clause-value
returns-in-Finer-clause-value c = rw c.in-Finer.is (rw (to_z-of_z w64 c.args.tick c.ranges.tick) at (c.in_finer_unit.ensures.left c.args.tick))

pub returns-in-Finer-clause-left : goal.returns-in-Finer-clause-left
returns-in-Finer-clause-left c = λ (y : ℤ). rw c.in-Finer.is (rw (to_z-of_z w64 c.args.tick c.ranges.tick) at (c.in_finer_unit.ensures.left y))

pub returns-in-Finer-clause-right : goal.returns-in-Finer-clause-right
returns-in-Finer-clause-right c = λ (x : ℤ). rw c.in-Finer.is (rw (to_z-of_z w64 c.args.tick c.ranges.tick) at (c.in_finer_unit.ensures.right x))
