-- What the words' command reads.
use Rattle.std.proofs.Common.{◌≡◌, ◌∙◌, ℕ, Bool, List, Some, ap}
use Rattle.std.specs.Option.{option_map_or}
use Rattle.std.specs.Prelude.{false}
use Rattle.col_prog.specs.declared.words.Command.{Command}
use Rattle.col_prog.specs.Words.{command_of}
use Rattle.col_prog.specs.Answer.{reads_script, read_by}

-- the words read a script where their command does
pub read_by-command : (words : List (List ℕ)) (command : Command) (reads : Bool)
    → Some command ≡ command_of words → read_by words ≡ reads → reads_script command ≡ reads
read_by-command words command reads tells e =
    ap (λ told. option_map_or reads_script told false) tells ∙ e
