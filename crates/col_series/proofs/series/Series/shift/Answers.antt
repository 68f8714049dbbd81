use Rattle.std.proofs.Common.{◌∙◌}
use Rattle.col_series.proofs.SlotLemmas.{shifted-day}
use Rattle.col_series.proofs.series.Series.shift.Goals as goal

pub from_int64-requires-clause-day : goal.from_int64-requires-clause-day
from_int64-requires-clause-day c =
    shifted-day c.args.self.now c.in-Int64.words.now c.in-Ok-shift.words c.clone_flat-dtype.result _ (c.clone_flat-dtype.ensures.equal ∙ c.dtype.ensures.dtype)
    c.in-Int64.ensures.column c.known.ensures.valid c.in-Ok-shift.ensures.column
