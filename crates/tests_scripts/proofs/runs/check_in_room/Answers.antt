use Rattle.std.proofs.Common.{◌≤◌, ◌∷◌, [], length, lit≤}
use Rattle.std.specs.Prelude.{codes}
use Rattle.col_prog.specs.Answer.{answer_of}
use Rattle.tests_scripts.proofs.runs.check_in_room.Goals as goal

-- the verdict on a script of one cast is short
short : length (answer_of (codes "check" ∷ [])
    (codes "col a datetime[ms] 5\nexpr $0 cast:datetime[ns]\n")).text ≤ 32
unfolding answer_of
short = lit≤ tt

pub run-requires : goal.run-requires
run-requires g c =
    record { room = rw (c.requires.words, c.requires.script, c.requires.room) short }
