use Rattle.col_logical.proofs.UnitLaws.{lengths_in_unit}
use Rattle.col_logical.proofs.duration.DurationChunked.cast_time_unit.Goals as goal

pub returns-in-Ok-clause-column : goal.returns-in-Ok-clause-column
returns-in-Ok-clause-column c =
    rw (← c.self.view_is, c.in-Duration.is, c.new_logical.ensures.column)
    (lengths_in_unit c.self.inside.phys c.in-Ok.changed.array c.in-Duration.old c.args.unit c.in-Ok.ensures.column)
