use Rattle.col_model.proofs.RoomLemmas.{scalar_multiply}
use Rattle.col_arith.proofs.intervals.number_interval.Goals as goal

pub product-requires : goal.product-requires
product-requires c = record { room = scalar_multiply c.args.p c.args.q c.requires.left c.requires.right }
