use Rattle.col_arith.proofs.ColumnLemmas.{joined-answer}
use Rattle.col_arith.proofs.joined.dates_apart.Goals as goal

pub returns : goal.returns
returns c = record { column = joined-answer _ _ _ c.args.left.now c.args.right.now c.int32.result.now c.int32-2.result.now _ _ c.int32.ensures.column c.int32-2.ensures.column c.at_units-words.ensures.column c.read_ticks.ensures.column }
