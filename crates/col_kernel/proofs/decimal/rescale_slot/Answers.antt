use Rattle.std.specs.Int.{w128}
use Rattle.std.proofs.Common.{ap, arith, sym, ◌∙◌}
use Rattle.std.proofs.lemmas.Int.{to_z-of_z}
use Rattle.col_model.specs.Arithmetic.{fitting_decimal}
use Rattle.col_kernel.proofs.Scales.{can_divide, rescaled_value-past, rescaled_value-same}
use Rattle.col_kernel.proofs.decimal.rescale_slot.Goals as goal

pub nonzero_div-value : goal.nonzero_div-value
nonzero_div-value c = can_divide c.args.value _ _ c.ranges.value
    c.power_of_ten-else-from-to-2.ensures.value (omega arith)

pub returns-in-None : goal.returns-in-None
returns-in-None c = record {
  value = rescaled_value-past c.args.from c.args.to c.args.precision c.args.value _
      c.requires.is_precision c.requires.to_is_scale c.if-from-to.true c.ranges.value
      c.power_of_ten.ensures.value c.in-None.ensures;
}

pub returns-then-from-to-2 : goal.returns-then-from-to-2
returns-then-from-to-2 c = record {
  value = c.within_precision-then-from-to-2.ensures.value
      ∙ ap (fitting_decimal c.args.precision) (to_z-of_z w128 c.args.value c.ranges.value)
      ∙ sym (rescaled_value-same c.args.from c.args.to c.args.precision c.args.value
      c.if-from-to-2.true);
}
