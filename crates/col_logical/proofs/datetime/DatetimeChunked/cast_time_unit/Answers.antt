use Rattle.col_logical.proofs.UnitLaws.{moments_in_unit}
use Rattle.col_logical.proofs.datetime.DatetimeChunked.cast_time_unit.Goals as goal

pub returns-in-Ok-clause-column : goal.returns-in-Ok-clause-column
returns-in-Ok-clause-column c =
    rw (← c.self.view_is, c.in-Datetime.is, c.new_logical.ensures.column)
    (moments_in_unit c.self.inside.phys c.in-Ok.changed.array c.in-Datetime.old c.args.unit c.in-Datetime.zone c.in-Ok.ensures.column)
