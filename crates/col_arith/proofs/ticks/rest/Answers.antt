use Rattle.std.proofs.Common.{rules}
use Rattle.col_arith.proofs.TickLemmas.{rest-read}
use Rattle.col_arith.proofs.ticks.rest.Goals as goal

pub returns-clause-value : goal.returns-clause-value
returns-clause-value c = rest-read _ c.args.tick c.args.divisor (search rules) c.ranges.tick c.ranges.divisor c.floor_mod.ensures.exact
