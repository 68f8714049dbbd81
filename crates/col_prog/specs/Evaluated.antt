-- What is evaluated by a command, and in how many steps.
use Rattle.std.specs.Prelude.{ℕ, List, Option, Some, None, option_and_then, Result, Ok, Err}
use Rattle.col_model.specs.Chunked.{columns_of}
use Rattle.col_expr.specs.FoundPlan.{found_plan}
use Rattle.col_expr.specs.Folded.{folded}
use Rattle.col_expr.specs.Meaning.{step_count}
use Rattle.col_expr.specs.Tree.{Tree}
use Rattle.col_text.specs.declared.script.Script.{Script}
use Rattle.col_text.specs.Script.{script_of}
use Rattle.col_prog.specs.declared.words.Command.{Command}
use Rattle.col_prog.specs.declared.words.Command.TheVariants.{Eval, Fold, Autofold, Check, Plan}
use Rattle.col_prog.specs.declared.words.Command.TheVariants.{Help, Version}
use Rattle.col_prog.specs.declared.value.Folding.{Folding}
use Rattle.col_prog.specs.declared.value.Folding.TheVariants.{Without, Given, Found}
use Rattle.col_prog.specs.Words.{command_of}

-- the tree that is evaluated: the script's own, or that one folded by a plan
abbrev pub evaluated_tree : Folding → Script → Tree
evaluated_tree Without script = script.expr
evaluated_tree Given script = (folded (columns_of script.inputs) script.plan script.expr).tree
evaluated_tree Found script =
    (folded (columns_of script.inputs)
    (found_plan (columns_of script.inputs) script.expr) script.expr).tree

-- how a command evaluates the expression, none where it doesn't
abbrev pub folding_of : Command → Option Folding
folding_of Eval = Some Without
folding_of Fold = Some Given
folding_of Autofold = Some Found
folding_of Check = None
folding_of Plan = None
folding_of Help = None
folding_of Version = None

-- the steps of an evaluation: one for each slot of each node that is no input
abbrev pub script_steps : Option Folding → Result Script ℕ → ℕ
script_steps None script = 0
script_steps (Some folding) (Ok script) =
    step_count (columns_of script.inputs) (evaluated_tree folding script)
script_steps (Some folding) (Err line) = 0

-- the steps that the words ask for, on these bytes
unfoldable pub steps_of : List (List ℕ) → List ℕ → ℕ
steps_of words bytes =
    script_steps (option_and_then folding_of (command_of words)) (script_of bytes)
