use Rattle.col_cast.proofs.tick_rows.ticks_of.Goals as goal

pub returns-in-Datetime-clause-lost : goal.returns-in-Datetime-clause-lost
returns-in-Datetime-clause-lost g c = rw (c.in-Datetime.is, ← c.ticks-in-Datetime.ensures.same) c.in_unit.ensures.lost

pub returns-in-Duration-clause-lost : goal.returns-in-Duration-clause-lost
returns-in-Duration-clause-lost g c = rw (c.in-Duration.is, ← c.ticks-in-Duration.ensures.same) c.in_unit-in-Duration.ensures.lost
