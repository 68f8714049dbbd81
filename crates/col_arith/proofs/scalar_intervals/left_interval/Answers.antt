use Rattle.std.proofs.Common.{◌≡◌, sym, subst}
use Rattle.std.specs.Int.{w128}
use Rattle.std.proofs.lemmas.Int.{to_z-of_z}
use Rattle.col_model.specs.Arithmetic.{Interval}
use Rattle.col_model.specs.IntervalRoom.{Multiply, only}
use Rattle.col_model.proofs.RoomLemmas.{scalar_multiply}
use Rattle.col_arith.proofs.scalar_intervals.left_interval.Goals as goal

pub product-requires : goal.product-requires
product-requires c =
    let is : c.only-k.result ≡ only c.args.k = rw (to_z-of_z w128 c.args.k c.ranges.k) at c.only-k.ensures.interval in
    let P : Interval → Type 0 = λ k. Multiply k c.args.p in
    record { room = subst P (sym is) (scalar_multiply (only c.args.k) c.args.p c.requires.scalar c.requires.near) }
