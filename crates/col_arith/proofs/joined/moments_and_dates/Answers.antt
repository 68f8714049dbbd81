use Rattle.col_arith.proofs.ColumnLemmas.{joined-answer}
use Rattle.col_arith.proofs.joined.moments_and_dates.Goals as goal

pub returns : goal.returns
returns c = record { column = joined-answer _ _ _ c.args.moments.now c.args.dates.now c.int64.result.now c.int32.result.now _ _ c.int64.ensures.column c.int32.ensures.column c.by_left_unit-words.ensures.column c.read_ticks.ensures.column }
