use Rattle.std.proofs.Math.Facts.{to_z-of_z}
use Rattle.col_kernel.proofs.Rounding.{rest-up, rest-up_less, rest-down_less}
use Rattle.col_kernel.proofs.wide.floor_rest.Goals as goal

pub returns-then-rest-lt0 : goal.returns-then-rest-lt0
returns-then-rest-lt0 c = record {
  value = simp (to_z-of_z c.ranges.x, to_z-of_z c.ranges.y)
      (rest-up_less c.args.x c.args.y c.ranges.x c.ranges.y
      (simp (to_z-of_z c.ranges.y) at c.if-y-gt0.true)
      (simp (to_z-of_z c.ranges.x, to_z-of_z c.ranges.y) at c.if-rest-lt0.true));
}

pub returns-else-rest-lt0 : goal.returns-else-rest-lt0
returns-else-rest-lt0 c = record {
  value = simp (to_z-of_z c.ranges.x, to_z-of_z c.ranges.y)
      (rest-up c.args.x c.args.y c.ranges.x c.ranges.y
      (simp (to_z-of_z c.ranges.y) at c.if-y-gt0.true)
      (simp (to_z-of_z c.ranges.x, to_z-of_z c.ranges.y) at c.if-rest-lt0.false));
}

pub returns-then-rest-gt0 : goal.returns-then-rest-gt0
returns-then-rest-gt0 c = record {
  value = simp (to_z-of_z c.ranges.x, to_z-of_z c.ranges.y)
      (rest-down_less c.args.x c.args.y c.ranges.x c.ranges.y c.requires.nonzero
      (simp (to_z-of_z c.ranges.y) at c.if-y-gt0.false)
      (simp (to_z-of_z c.ranges.x, to_z-of_z c.ranges.y) at c.if-rest-gt0.true));
}
