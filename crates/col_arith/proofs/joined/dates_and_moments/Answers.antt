use Rattle.col_arith.proofs.ColumnLemmas.{joined-answer}
use Rattle.col_arith.proofs.joined.dates_and_moments.Goals as goal

pub returns : goal.returns
returns c = record { column = joined-answer _ _ _ c.args.dates.now c.args.moments.now c.int32.result.now c.int64.result.now _ _ c.int32.ensures.column c.int64.ensures.column c.by_right_unit-words.ensures.column c.read_ticks.ensures.column }
