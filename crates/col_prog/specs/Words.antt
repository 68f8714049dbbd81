-- The command that words tell.
use Rattle.std.specs.Prelude.{ℕ, List, [], ◌∷◌, Option, Some, None, codes, if◌then◌else◌}
use Rattle.std.specs.Str.{bytes_eq}
use Rattle.col_prog.specs.declared.words.Command.{Command}
use Rattle.col_prog.specs.declared.words.Command.TheVariants.{Eval, Fold, Autofold, Check, Plan}
use Rattle.col_prog.specs.declared.words.Command.TheVariants.{Help, Version}

-- the command of one word
abbrev pub command_named : List ℕ → Option Command
command_named word =
    if bytes_eq word (codes "eval") then Some Eval
    else if bytes_eq word (codes "fold") then Some Fold
    else if bytes_eq word (codes "autofold") then Some Autofold
    else if bytes_eq word (codes "check") then Some Check
    else if bytes_eq word (codes "plan") then Some Plan
    else if bytes_eq word (codes "--help") then Some Help
    else if bytes_eq word (codes "--version") then Some Version
    else None

-- the command of all the words: one word tells it
abbrev pub command_of : List (List ℕ) → Option Command
command_of (word ∷ []) = command_named word
command_of _ = None
