use Rattle.col_model.proofs.IntervalLemmas.{intervals_hold}
use Rattle.col_model.proofs.laws.intervals_hold.Goals as goal

pub returns : goal.returns
returns c = record { law = intervals_hold }
