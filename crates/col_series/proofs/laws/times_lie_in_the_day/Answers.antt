use Rattle.col_series.proofs.LawLemmas.{times_in_day}
use Rattle.col_series.proofs.laws.times_lie_in_the_day.Goals as goal

pub returns : goal.returns
returns c = record { law = times_in_day }
