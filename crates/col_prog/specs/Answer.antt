-- What the program answers to its words and to the bytes of its script.
use Rattle.std.specs.Prelude.{◌≡◌, ◌≤◌, ℕ, Bool, true, false, List, [], Option, Some, None}
use Rattle.std.specs.Prelude.{option_and_then, Result, Ok, Err, length, codes}
use Rattle.std.specs.Option.{IsSomeAnd, option_map_or}
use Rattle.col_model.specs.Chunked.{columns_of}
use Rattle.col_model.specs.Column.{Column}
use Rattle.col_expr.specs.declared.error.EvalError.{EvalError}
use Rattle.col_expr.specs.FoundPlan.{found_plan}
use Rattle.col_expr.specs.Plan.{is_plan_valid}
use Rattle.col_expr.specs.Refusal.{outcome}
use Rattle.col_expr.specs.Tree.{node_count}
use Rattle.col_text.specs.declared.script.Script.{Script}
use Rattle.col_text.specs.Script.{script_of}
use Rattle.col_text.specs.Answer.{column_text, fault_text, bad_line_text}
use Rattle.col_text.specs.Plans.{plan_text}
use Rattle.col_prog.specs.declared.words.Command.{Command}
use Rattle.col_prog.specs.declared.words.Command.TheVariants.{Eval, Fold, Autofold, Check, Plan}
use Rattle.col_prog.specs.declared.words.Command.TheVariants.{Help, Version}
use Rattle.col_prog.specs.declared.status.Status.{Status}
use Rattle.col_prog.specs.declared.status.Status.TheVariants.{Done, Refused, BadScript, BadWords}
use Rattle.col_prog.specs.declared.status.Status.TheVariants.{ReadFault, TooLong, NoMemory}
use Rattle.col_prog.specs.Words.{command_of}
use Rattle.col_prog.specs.HelpText.{help_text, version_text}

-- a text, and the status that tells it
pub record Reply : Type 0 where
  pub text : List ℕ
  pub status : Status

-- the text of the column, or of the first refused node
abbrev pub reply_to_outcome : Result Column EvalError → Reply
reply_to_outcome (Ok column) = record { text = column_text column; status = Done }
reply_to_outcome (Err refusal) = record { text = fault_text refusal; status = Refused }

-- the value of the script's expression, or its first refused node
abbrev pub value_reply : Script → Reply
value_reply script = reply_to_outcome (outcome (columns_of script.inputs) script.expr)

-- the word of a truth
abbrev pub verdict_text : Bool → List ℕ
verdict_text true = codes "yes\n"
verdict_text false = codes "no\n"

-- whether the script's plan holds
abbrev pub verdict_reply : Script → Reply
verdict_reply script = record {
  text = verdict_text (is_plan_valid (columns_of script.inputs) script.plan script.expr);
  status = Done;
}

-- the plan that is found for the script's expression, as lines
abbrev pub plan_reply : Script → Reply
plan_reply script = record {
  text = plan_text (found_plan (columns_of script.inputs) script.expr) (node_count script.expr);
  status = Done;
}

-- what is made of a script, or the text of its first bad line
abbrev pub reply_to_script : (Script → Reply) → Result Script ℕ → Reply
reply_to_script reply (Ok script) = reply script
reply_to_script reply (Err line) = record { text = bad_line_text line; status = BadScript }

-- whether the command reads a script
abbrev pub reads_script : Command → Bool
reads_script Eval = true
reads_script Fold = true
reads_script Autofold = true
reads_script Check = true
reads_script Plan = true
reads_script Help = false
reads_script Version = false

-- the text that the command says of the program itself, which needs no script
abbrev pub own_text : Command → Option (List ℕ)
own_text Eval = None
own_text Fold = None
own_text Autofold = None
own_text Check = None
own_text Plan = None
own_text Help = Some help_text
own_text Version = Some version_text

-- a text of the program itself, which is the whole answer
abbrev pub own_reply : List ℕ → Reply
own_reply text = record { text = text; status = Done }

-- the answer to a command and the bytes of its source; words that tell no command have no text
abbrev pub reply_to : Option Command → List ℕ → Reply
reply_to (Some Eval) bytes = reply_to_script value_reply (script_of bytes)
reply_to (Some Fold) bytes = reply_to_script value_reply (script_of bytes)
reply_to (Some Autofold) bytes = reply_to_script value_reply (script_of bytes)
reply_to (Some Check) bytes = reply_to_script verdict_reply (script_of bytes)
reply_to (Some Plan) bytes = reply_to_script plan_reply (script_of bytes)
reply_to (Some Help) bytes = own_reply help_text
reply_to (Some Version) bytes = own_reply version_text
reply_to None bytes = record { text = []; status = BadWords }

-- whether the words tell a command that reads a script
abbrev pub read_by : List (List ℕ) → Bool
read_by words = option_map_or reads_script (command_of words) false

-- the text of the program itself that the words ask for
abbrev pub asked_text : List (List ℕ) → Option (List ℕ)
asked_text words = option_and_then own_text (command_of words)

-- the answer to the words and the bytes
unfoldable pub answer_of : List (List ℕ) → List ℕ → Reply
answer_of words bytes = reply_to (command_of words) bytes

-- where the room is limited, the bytes are known, and the answer to them fits the room
abbrev pub HoldsAnswer : List (List ℕ) → Option ℕ → Option (List ℕ) → Type 0
HoldsAnswer words None bytes = Unit {0}
HoldsAnswer words (Some room) bytes =
    IsSomeAnd bytes (λ script. length (answer_of words script).text ≤ room)

-- a status that tells that the whole text was written
abbrev pub IsAnswer : Status → Type 0
IsAnswer Done = Unit {0}
IsAnswer Refused = Unit {0}
IsAnswer BadScript = Unit {0}
IsAnswer _ = ⊥

-- a status that tells that nothing was written
abbrev pub IsUnwritten : Status → Type 0
IsUnwritten BadWords = Unit {0}
IsUnwritten ReadFault = Unit {0}
IsUnwritten TooLong = Unit {0}
IsUnwritten NoMemory = Unit {0}
IsUnwritten _ = ⊥

-- the expected status, unless memory is wanting
abbrev pub IsStatus : Status → Status → Type 0
IsStatus NoMemory expected = Unit {0}
IsStatus status expected = status ≡ expected
