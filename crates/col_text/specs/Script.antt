-- The script: lines of zones, columns and plans, and then the line of the expression.
use Rattle.std.specs.Prelude.{◌≡◌, ℕ, ◌+◌, List, [], ◌∷◌, ◌++◌, Option, Some, None, is_some}
use Rattle.std.specs.Prelude.{Result, Ok, Err, option_map, if◌then◌else◌, codes}
use Rattle.std.specs.Str.{bytes_eq}
use Rattle.col_types.specs.Zones.{with_name}
use Rattle.col_expr.specs.Plan.{covering}
use Rattle.col_expr.specs.Tree.{Tree}
use Rattle.col_token.specs.Lines.{lines_of}
use Rattle.col_token.specs.Tokens.{tokens_of}
use Rattle.col_text.specs.declared.script.Progress.{Progress}
use Rattle.col_text.specs.declared.script.Script.{Script}
use Rattle.col_text.specs.declared.script.ReadError.{ReadError}
use Rattle.col_text.specs.declared.script.ReadError.TheVariants as errors
use Rattle.col_text.specs.Zone.{zone_line}
use Rattle.col_text.specs.Slots.{column_line}
use Rattle.col_text.specs.Plans.{plan_line}
use Rattle.col_text.specs.Expression.{expression_line}

-- before the first line
abbrev pub no_progress : Progress
no_progress = record { zones = []; inputs = []; plan = []; expr = None }

-- one zone more
abbrev pub with_zone : Progress → List (List ℕ) → Option Progress
with_zone progress tokens =
    option_map (λ name. record progress { zones = with_name progress.zones name })
    (zone_line tokens)

-- one column more
abbrev pub with_column : Progress → List (List ℕ) → Option Progress
with_column progress tokens =
    option_map (λ column. record progress { inputs = progress.inputs ++ column ∷ [] })
    (column_line progress.zones tokens)

-- one node covered, in place of an older interval
abbrev pub with_plan : Progress → List (List ℕ) → Option Progress
with_plan progress tokens =
    option_map (λ cover. record progress { plan = covering progress.plan cover.0 cover.1 })
    (plan_line tokens)

-- the expression
abbrev pub with_expression : Progress → List (List ℕ) → Option Progress
with_expression progress tokens =
    option_map (λ tree. record progress { expr = Some tree })
    (expression_line progress.zones tokens)

-- the progress after a line with these tokens, none where the line is bad: behind the expression
-- come lines without tokens alone
abbrev pub progress_after : Progress → List (List ℕ) → Option Progress
progress_after progress [] = Some progress
progress_after progress (word ∷ tokens) =
    if is_some progress.expr then None
    else if bytes_eq word (codes "zone") then with_zone progress tokens
    else if bytes_eq word (codes "col") then with_column progress tokens
    else if bytes_eq word (codes "plan") then with_plan progress tokens
    else if bytes_eq word (codes "expr") then with_expression progress tokens else None

-- the number of the next line, which stays where this one is bad
abbrev pub number_after : ℕ → Option Progress → ℕ
number_after number None = number
number_after number (Some progress) = number + 1

-- the script of what was read, where the expression is there
abbrev pub script_with : ℕ → Progress → Option Tree → Result Script ℕ
script_with number progress None = Err number
script_with number progress (Some tree) =
    Ok (record { inputs = progress.inputs; expr = tree; plan = progress.plan })

-- the script at the end of the lines; without an expression the line behind the last one is bad
abbrev pub finished : ℕ → Progress → Result Script ℕ
finished number progress = script_with number progress progress.expr

-- the script of the lines from this number on, or the number of the first bad line
abbrev pub script_from : ℕ → Option Progress → List (List ℕ) → Result Script ℕ
script_from number None lines = Err number
script_from number (Some progress) [] = finished number progress
script_from number (Some progress) (line ∷ lines) =
    let next = progress_after progress (tokens_of line) in
    script_from (number_after number next) next lines

-- the script that the bytes are, or the number of its first bad line
abbrev pub script_of : List ℕ → Result Script ℕ
script_of bytes = script_from 1 (Some no_progress) (lines_of bytes)

-- the answer is the script or the bad line that is expected, unless memory is wanting
abbrev pub Reads : Result Script ReadError → Result Script ℕ → Type 0
Reads (Ok script) expected = expected ≡ Ok script
Reads (Err (errors.BadLine line)) expected = expected ≡ Err line
Reads (Err errors.NoMemory) expected = Unit {0}
