use Rattle.col_series.proofs.intervals.rule_interval.Goals as goal

pub returns-in-Time : goal.returns-in-Time
returns-in-Time c = record { value = rw c.in-Time.is (c.times_of.ensures.times c.args.p) }
