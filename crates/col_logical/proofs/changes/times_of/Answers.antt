use Rattle.col_logical.proofs.DayLaws.{times-day}
use Rattle.col_logical.proofs.changes.times_of.Goals as goal

pub returns-clause-day : goal.returns-clause-day
returns-clause-day c = times-day c.map_array.result c.args.words.now c.map_array.ensures.column
