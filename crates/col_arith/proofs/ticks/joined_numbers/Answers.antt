use Rattle.std.specs.Int.{w64}
use Rattle.std.proofs.Common.{rules}
use Rattle.std.proofs.lemmas.Int.{to_z-of_z}
use Rattle.col_arith.proofs.TickLemmas.{number-read}
use Rattle.col_arith.proofs.ticks.joined_numbers.Goals as goal

pub returns-clause-value : goal.returns-clause-value
returns-clause-value c =
    number-read w64 c.args.op _ _ _ c.args.left c.args.right (search rules) (to_z-of_z w64 _ c.ranges.left) (to_z-of_z w64 _ c.ranges.right)
    c.ranges.left c.ranges.right c.joined_words.ensures.value
