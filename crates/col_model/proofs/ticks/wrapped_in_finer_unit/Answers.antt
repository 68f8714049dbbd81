use Rattle.std.proofs.Common.{Some, ap}
use Rattle.col_model.proofs.WrapLemmas.{wrapped_product}
use Rattle.col_model.proofs.ticks.wrapped_in_finer_unit.Goals as goal

pub returns : goal.returns
returns c = record {
  value = ap Some (wrapped_product c.args.tick c.from.result c.args.factor c.ranges.tick (record { sfits = c.from.type_inv }) c.from.ensures);
}
