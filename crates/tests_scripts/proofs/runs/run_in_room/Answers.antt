use Rattle.std.proofs.Common.{◌≤◌, ◌∷◌, [], length, ℕ, List, lit≤}
use Rattle.std.specs.Prelude.{Option, Some, None}
use Rattle.std.specs.Fmt.{digits}
use Rattle.col_prog.specs.declared.words.Command.{Command}
use Rattle.col_prog.specs.declared.words.Command.TheVariants.{Eval, Fold, Autofold, Check, Plan, Help, Version}
use Rattle.col_prog.specs.Words.{command_of}
use Rattle.col_prog.specs.Answer.{answer_of, reply_to}
use Rattle.tests_scripts.proofs.runs.run_in_room.Goals as goal

-- whatever is asked of a script of one line feed, the answer is short
short : (command : Option Command) → length (reply_to command (10 ∷ [])).text ≤ 2000
unfolding digits
short (Some Eval) = lit≤ tt
short (Some Fold) = lit≤ tt
short (Some Autofold) = lit≤ tt
short (Some Check) = lit≤ tt
short (Some Plan) = lit≤ tt
short (Some Help) = lit≤ tt
short (Some Version) = lit≤ tt
short None = lit≤ tt

fits : (words : List (List ℕ)) → length (answer_of words (10 ∷ [])).text ≤ 2000
unfolding answer_of
fits words = short (command_of words)

pub run-requires : goal.run-requires
run-requires g c = record { room = rw (c.requires.script, c.requires.room) (fits c.args.words.now) }
