use Rattle.col_arith.proofs.ColumnLemmas.{joined-answer}
use Rattle.col_arith.proofs.joined.words_joined.Goals as goal

pub returns : goal.returns
returns g c = record { column = joined-answer _ _ _ c.args.left.now c.args.right.now c.int64.result.now c.int64-2.result.now _ _ c.int64.ensures.column c.int64-2.ensures.column c.at_units-words.ensures.column c.read_ticks.ensures.column }
