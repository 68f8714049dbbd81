use Rattle.std.proofs.Common.{rules, ◌≡◌, ◌*ℤ◌, pos, sym, subst}
use Rattle.col_model.specs.Arithmetic.{Interval}
use Rattle.col_model.specs.Formula.{at_ends}
use Rattle.col_model.specs.IntervalRoom.{IsNear, only}
use Rattle.col_model.proofs.RoomLemmas.{times_near}
use Rattle.col_model.proofs.tick_intervals.times.Goals as goal

pub returns-clause-near : goal.returns-clause-near
returns-clause-near c =
    let ends : c.product.result ≡ at_ends ◌*ℤ◌ c.args.p (only (pos c.args.factor)) = search rules in
    let P : Interval → Type 0 = λ r. IsNear 126 r in
    subst P (sym ends) (times_near c.args.p c.args.factor c.requires.near c.requires.factor)
