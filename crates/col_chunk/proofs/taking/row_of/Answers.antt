use Rattle.col_chunk.proofs.TakeLaws.{kept-number}
use Rattle.col_chunk.proofs.taking.row_of.Goals as goal

pub returns : goal.returns
returns c = record { row = kept-number c.args.index c.ranges.index.fits }
