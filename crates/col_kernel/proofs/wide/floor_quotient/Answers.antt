use Rattle.std.specs.Prelude.{pos, true, false, ℤ, int_lt}
use Rattle.std.proofs.Math.Facts.{to_z-of_z}
use Rattle.col_kernel.proofs.Rounding.{quotient-minus_one, quotient-plain, quotient-less, floor-up, floor-up_less, floor-down, floor-down_less, read_test, less_fits}
use Rattle.col_kernel.proofs.wide.floor_quotient.Goals as goal

pub returns-then-y-eqminus1 : goal.returns-then-y-eqminus1
returns-then-y-eqminus1 c =
    record {
      value = quotient-minus_one c.args.x c.args.y c.wrapping_neg.result c.ranges.x
          c.ranges.y (record { sfits = c.wrapping_neg.type_inv }) c.if-y-eqminus1.true
          c.wrapping_neg.ensures;
    }

pub returns-then-rest-lt0 : goal.returns-then-rest-lt0
returns-then-rest-lt0 c = record {
  value = simp (to_z-of_z c.ranges.x, to_z-of_z c.ranges.y)
      (let e = (floor-up_less c.args.x c.args.y (simp (to_z-of_z c.ranges.y) at c.if-y-gt0.true)
      (read_test c.args.x c.args.y true (λ (z : ℤ). int_lt z (pos 0)) c.ranges.x
      (simp (to_z-of_z c.ranges.x, to_z-of_z c.ranges.y) at c.if-rest-lt0.true))) in
      quotient-less c.args.x c.args.y c.ranges.x c.ranges.y c.if-y-eqminus1.false
      (less_fits c.args.x c.args.y c.ranges.x c.ranges.y c.if-y-eqminus1.false c.requires.nonzero
      e) e);
}

pub returns-else-rest-lt0 : goal.returns-else-rest-lt0
returns-else-rest-lt0 c = record {
  value = simp (to_z-of_z c.ranges.x, to_z-of_z c.ranges.y)
      (quotient-plain c.args.x c.args.y c.ranges.x c.ranges.y c.if-y-eqminus1.false
      (floor-up c.args.x c.args.y (simp (to_z-of_z c.ranges.y) at c.if-y-gt0.true)
      (read_test c.args.x c.args.y false (λ (z : ℤ). int_lt z (pos 0)) c.ranges.x
      (simp (to_z-of_z c.ranges.x, to_z-of_z c.ranges.y) at c.if-rest-lt0.false))));
}

pub returns-then-rest-gt0 : goal.returns-then-rest-gt0
returns-then-rest-gt0 c = record {
  value = simp (to_z-of_z c.ranges.x, to_z-of_z c.ranges.y)
      (let e = (floor-down_less c.args.x c.args.y c.requires.nonzero
      (simp (to_z-of_z c.ranges.y) at c.if-y-gt0.false)
      (read_test c.args.x c.args.y true (λ (z : ℤ). int_lt (pos 0) z) c.ranges.x
      (simp (to_z-of_z c.ranges.x, to_z-of_z c.ranges.y) at c.if-rest-gt0.true))) in
      quotient-less c.args.x c.args.y c.ranges.x c.ranges.y c.if-y-eqminus1.false
      (less_fits c.args.x c.args.y c.ranges.x c.ranges.y c.if-y-eqminus1.false c.requires.nonzero
      e) e);
}

pub returns-else-rest-gt0 : goal.returns-else-rest-gt0
returns-else-rest-gt0 c = record {
  value = simp (to_z-of_z c.ranges.x, to_z-of_z c.ranges.y)
      (quotient-plain c.args.x c.args.y c.ranges.x c.ranges.y c.if-y-eqminus1.false
      (floor-down c.args.x c.args.y c.requires.nonzero
      (simp (to_z-of_z c.ranges.y) at c.if-y-gt0.false)
      (read_test c.args.x c.args.y false (λ (z : ℤ). int_lt (pos 0) z) c.ranges.x
      (simp (to_z-of_z c.ranges.x, to_z-of_z c.ranges.y) at c.if-rest-gt0.false))));
}
