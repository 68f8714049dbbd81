use Rattle.std.specs.Int.{w64}
use Rattle.std.proofs.Common.{rules}
use Rattle.std.proofs.lemmas.Int.{to_z-of_z}
use Rattle.col_arith.proofs.TickLemmas.{form-read}
use Rattle.col_arith.proofs.scalars.wide_value.Goals as goal

pub returns-clause-value : goal.returns-clause-value
returns-clause-value c =
    form-read w64 c.args.form _ _ _ c.args.tick c.args.k (search rules) (to_z-of_z w64 _ c.ranges.tick) (to_z-of_z w64 _ c.ranges.k)
    c.ranges.tick c.ranges.k c.form_value.ensures.value
