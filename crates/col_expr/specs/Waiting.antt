-- A column over which casts from unit to unit still wait, and the folded tree that it stands for.
use Rattle.std.specs.Prelude.{◌≡◌, ℕ, ◌+◌, Bool, true, false, ◌&&◌, List, Option, Some, None}
use Rattle.std.specs.Prelude.{Result, Ok, Err, OnOk, if◌then◌else◌}
use Rattle.col_types.specs.DataType.{same_type}
use Rattle.col_types.specs.declared.data_type.DataType.{DataType}
use Rattle.col_types.specs.declared.cast_options.CastOptions.TheVariants.{NonStrict}
use Rattle.col_model.specs.declared.ticks.UnitChange.{UnitChange}
use Rattle.col_model.specs.declared.ticks.UnitChange.TheVariants.{Finer, Same, Coarser}
use Rattle.col_model.specs.Column.{Column}
use Rattle.col_model.specs.Chunked.{Chunked, column_of}
use Rattle.col_expr.specs.declared.error.EvalError.{EvalError}
use Rattle.col_expr.specs.declared.node.UnaryOp.{UnaryOp}
use Rattle.col_expr.specs.declared.node.UnaryOp.TheVariants as operations
use Rattle.col_expr.specs.declared.waiting.Way.{Way}
use Rattle.col_expr.specs.declared.waiting.Way.TheVariants as ways
use Rattle.col_expr.specs.declared.waiting.UnitCast.{UnitCast}
use Rattle.col_expr.specs.declared.waiting.Waiting.{Waiting}
use Rattle.col_expr.specs.declared.waiting.Waiting.TheVariants as waitings
use Rattle.col_expr.specs.Node.{over}
use Rattle.col_expr.specs.Numbers.{Over}
use Rattle.col_expr.specs.Meaning.{dtype_of, step_count}
use Rattle.col_expr.specs.Refusal.{Unless, first_refusal}
use Rattle.col_expr.specs.Found.{IsFine, IsFound}
use Rattle.col_expr.specs.Plan.{Plan}
use Rattle.col_expr.specs.Folded.{Numbered, unit_step_for, step_of, cast_over, fold_cast}
use Rattle.col_expr.specs.Folded.{is_covered}

-- ---- casts that wait

-- where a change of unit leads
abbrev pub way_of : UnitChange → Option Way
way_of (Finer factor) = Some ways.Finer
way_of Same = None
way_of (Coarser factor) = Some ways.Coarser

-- whether two casts lead the same way
abbrev pub same_way : Way → Way → Bool
same_way ways.Finer ways.Finer = true
same_way ways.Finer ways.Coarser = false
same_way ways.Coarser ways.Finer = false
same_way ways.Coarser ways.Coarser = true

-- whether the first leads to a finer unit, and the second to a coarser one
abbrev pub there_and_back : Way → Way → Bool
there_and_back ways.Finer ways.Finer = false
there_and_back ways.Finer ways.Coarser = true
there_and_back ways.Coarser ways.Finer = false
there_and_back ways.Coarser ways.Coarser = false

-- the type above all that waits
abbrev pub waiting_dtype : Waiting → DataType
waiting_dtype (waitings.Column column) = (column_of column).dtype
waiting_dtype (waitings.Cast' place below cast) = cast.target

-- what stands under the last cast
abbrev pub under_last : Waiting → Waiting
under_last (waitings.Column column) = waitings.Column column
under_last (waitings.Cast' place below cast) = below

-- whether the last cast leads the same way as this one
abbrev pub last_goes_on : Waiting → UnitCast → Bool
last_goes_on (waitings.Column column) cast = false
last_goes_on (waitings.Cast' place below last) cast = same_way last.way cast.way

-- whether this cast turns back the last one, which the plan covers
abbrev pub last_turns_back : Plan → Waiting → UnitCast → Bool
last_turns_back plan (waitings.Column column) cast = false
last_turns_back plan (waitings.Cast' place below last) cast =
    there_and_back last.way cast.way && same_type (waiting_dtype below) cast.target
    && is_covered plan last.node

-- what a cast stands over once it is joined
abbrev pub joined_waiting : Waiting → UnitCast → Waiting
joined_waiting waiting cast = if last_goes_on waiting cast then under_last waiting else waiting

-- ---- the casts of nodes

-- a step that leads to no finer and to no coarser unit
abbrev pub IsLevel : Option UnitChange → Type 0
IsLevel step = (change : UnitChange) → step ≡ Some change → change ≡ Same

-- a cast over an operand of this type leads its way
abbrev pub Leads : Option DataType → UnitCast → Type 0
Leads dtype cast =
    (change : UnitChange) × (unit_step_for NonStrict dtype cast.target ≡ Some change)
    × (way_of change ≡ Some cast.way)

-- the change of unit that an operation makes of an operand of this type
abbrev pub operation_step : Option DataType → UnaryOp → Option UnitChange
operation_step dtype (operations.Cast target options) = unit_step_for options dtype target
operation_step dtype operation = None

-- the cast that the operation of a node is, if it leads from the type to a finer or a coarser unit
abbrev pub IsUnitCast : DataType → ℕ → UnaryOp → Option UnitCast → Type 0
IsUnitCast dtype node operation None = IsLevel (operation_step (Some dtype) operation)
IsUnitCast dtype node operation (Some cast) =
    (operation ≡ operations.Cast cast.target NonStrict) × (node ≡ cast.node)
    × Leads (Some dtype) cast

-- an operation of this number over an operand that is folded
abbrev pub fold_over : List Column → Plan → ℕ → UnaryOp → Numbered → Numbered
fold_over inputs plan node (operations.Cast target options) operand =
    fold_cast inputs plan node operand target options
fold_over inputs plan node operation operand =
    record { tree = over operation operand.tree; numbers = Over node operand.numbers }

-- ---- what it all stands for

-- the column of a folded tree over which nothing waits, and the steps taken for it
pub record IsDone (inputs : List Column) (folded : Numbered) (before after : ℕ)
    (column : Chunked) : Type 0 where
  pub fine : IsFine inputs folded.numbers folded.tree (column_of column)
  pub counted : after ≡ before + step_count inputs folded.tree
  pub level : IsLevel (step_of inputs folded.tree)

-- the same with the casts that wait over it, which have taken no steps
abbrev pub IsWaiting : List Column → Numbered → ℕ → ℕ → Waiting → Type 0
IsWaiting inputs folded before after (waitings.Column column) =
    IsDone inputs folded before after column
IsWaiting inputs folded before after (waitings.Cast' place below cast) =
    (operand : Numbered) × (folded ≡ cast_over cast.node operand cast.target NonStrict)
    × Leads (dtype_of inputs operand.tree) cast × IsWaiting inputs operand before after below

-- that, or the first refusal of the folded tree
abbrev pub IsFolding : List Column → Numbered → ℕ → ℕ → Result Waiting EvalError → Type 0
IsFolding inputs folded before after (Ok waiting) = IsWaiting inputs folded before after waiting
IsFolding inputs folded before after (Err error) =
    Unless error (first_refusal inputs folded.numbers folded.tree ≡ Some error)

-- the column of a folded tree or its first refusal, and the steps taken
pub record IsReady (inputs : List Column) (folded : Numbered) (before after : ℕ)
    (answer : Result Chunked EvalError) : Type 0 where
  pub found : IsFound inputs folded.numbers folded.tree answer
  pub counted : OnOk answer (after ≡ before + step_count inputs folded.tree)
