use Rattle.col_series.proofs.CastLemmas.{null-words, nulls-day}
use Rattle.col_series.proofs.series.Series.full_null.Goals as goal

pub from_int64-requires-clause-day : goal.from_int64-requires-clause-day
from_int64-requires-clause-day c =
    rw (c.clone_flat-in-Ok-full_null.ensures.equal, null-words _ _ _ c.in-Ok-full_null.words c.in-Ok-full_null.ensures.column)
    (nulls-day c.args.dtype.now c.args.length)
