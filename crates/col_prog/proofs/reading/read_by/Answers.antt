use Rattle.std.proofs.Common.{◌≤◌, ◌++◌, length, take, arith, length-append, length-take}
use Rattle.std.proofs.KnownBytes.{Consumes-trans}
use Rattle.col_prog.proofs.reading.read_by.Goals as goal

pub returns-then-is_err-clause-front : goal.returns-then-is_err-clause-front
returns-then-is_err-clause-front g c =
    let had = c.reading.bytes.items in
    let got = take c.in-Ok.count c.read_turn.new.piece in
    let room = length-take c.min-room.result c.reading.piece in
    let short : length (had ++ got) ≤ 16777217 = omega (arith, length-append had got, length-take c.in-Ok.count c.read_turn.new.piece, c.in-Ok.ensures.bound, c.read_turn.auto.piece, room) in
    (had ++ got, short, Consumes-trans _ _ _ _ _ c.reading.invariant.taken c.in-Ok.ensures.taken)
