use Rattle.col_kernel.proofs.Scales.{few_digits, many_digits}
use Rattle.col_kernel.proofs.decimal.within_precision.Goals as goal

pub returns-then-unsigned_abs : goal.returns-then-unsigned_abs
returns-then-unsigned_abs c = record {
  value = few_digits c.args.precision c.args.value c.power_of_ten-bound.result
      c.unwrap_or.result c.unsigned_abs.result c.unsigned_abs-2.result c.ranges.value
      c.requires.is_precision c.power_of_ten-bound.ensures.value c.unwrap_or.ensures
      c.unsigned_abs.ensures.value c.unsigned_abs-2.ensures.value c.if-unsigned_abs.true;
}

pub returns-else-unsigned_abs : goal.returns-else-unsigned_abs
returns-else-unsigned_abs c = record {
  value = many_digits c.args.precision c.args.value c.power_of_ten-bound.result
      c.unwrap_or.result c.unsigned_abs.result c.unsigned_abs-2.result c.ranges.value
      c.requires.is_precision c.power_of_ten-bound.ensures.value c.unwrap_or.ensures
      c.unsigned_abs.ensures.value c.unsigned_abs-2.ensures.value c.if-unsigned_abs.false;
}
