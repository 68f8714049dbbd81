-- What the evaluation of a part of an expression answers.
use Rattle.std.specs.Prelude.{◌≡◌, ℕ, List, length, Option, Some, None, Result, Ok, Err}
use Rattle.std.specs.Prelude.{if◌then◌else◌}
use Rattle.col_types.specs.DataType.{is_expression_target}
use Rattle.col_types.specs.declared.data_type.DataType.{DataType}
use Rattle.col_types.specs.declared.cast_options.CastOptions.{CastOptions}
use Rattle.col_types.specs.declared.error.PolarsError.{PolarsError}
use Rattle.col_model.specs.Column.{Column}
use Rattle.col_model.specs.Chunked.{Chunked, column_of}
use Rattle.col_model.specs.Broadcast.{column_slots}
use Rattle.col_model.specs.ColumnCalls.{cast_of}
use Rattle.col_model.specs.OperatorCalls.{scalar_right_of, scalar_left_of, in_unit_of, shifted}
use Rattle.col_expr.specs.declared.error.EvalError.{EvalError}
use Rattle.col_expr.specs.declared.error.EvalError.TheVariants as refusals
use Rattle.col_expr.specs.declared.node.UnaryOp.{UnaryOp}
use Rattle.col_expr.specs.declared.node.UnaryOp.TheVariants as operations
use Rattle.col_expr.specs.Tree.{Tree}
use Rattle.col_expr.specs.Numbers.{Numbers}
use Rattle.col_expr.specs.Meaning.{name_of, dtype_of, rows_of, slot_at, flag_of}
use Rattle.col_expr.specs.Refusal.{at_node, first_refusal, Unless}

-- the column has the name, the type, the rows, the slots and the flag of the tree
pub record IsColumnOf (inputs : List Column) (tree : Tree) (column : Column) : Type 0 where
  pub named : name_of inputs tree ≡ Some column.name
  pub typed : dtype_of inputs tree ≡ Some column.dtype
  pub long : rows_of inputs tree ≡ Some (length column.slots)
  pub filled : column.slots ≡ column_slots (slot_at inputs tree) (length column.slots)
  pub flagged : column.flag ≡ flag_of inputs tree

-- a part with no refused node, and its column
pub record IsFineBy (inputs : List Column) (refused : Option EvalError) (tree : Tree)
    (column : Column) : Type 0 where
  pub fine : refused ≡ None
  pub column_is : IsColumnOf inputs tree column

-- the answer for a part with this first refusal
abbrev pub IsFoundBy : List Column → Option EvalError → Tree → Result Chunked EvalError → Type 0
IsFoundBy inputs refused tree (Ok chunked) = IsFineBy inputs refused tree (column_of chunked)
IsFoundBy inputs refused tree (Err error) = Unless error (refused ≡ Some error)

-- a part with no refused node, where the nodes have these numbers, and its column
abbrev pub IsFine : List Column → Numbers → Tree → Column → Type 0
IsFine inputs numbers tree column = IsFineBy inputs (first_refusal inputs numbers tree) tree column

-- the answer for a part whose nodes have these numbers
abbrev pub IsFound : List Column → Numbers → Tree → Result Chunked EvalError → Type 0
IsFound inputs numbers tree answer =
    IsFoundBy inputs (first_refusal inputs numbers tree) tree answer

-- a column's answer as that of a node
abbrev pub numbered : {T : Type 0} → ℕ → Result T PolarsError → Result T EvalError
numbered node (Ok x) = Ok x
numbered node (Err e) = Err (at_node node e)

-- a cast's answer as that of a node: a target that no expression can have is refused first
abbrev pub cast_at : ℕ → Column → DataType → CastOptions → Result Column EvalError
cast_at node column target options =
    if is_expression_target target then numbered node (cast_of column target options)
    else Err (refusals.BadType node)

-- the answer of a node that does one operation with its operand's column
abbrev pub unary_at : ℕ → UnaryOp → Column → Result Column EvalError
unary_at node (operations.Cast target options) column = cast_at node column target options
unary_at node (operations.ScalarRight op k) column = numbered node (scalar_right_of column op k)
unary_at node (operations.ScalarLeft k op) column = numbered node (scalar_left_of k op column)
unary_at node (operations.InUnit unit) column = numbered node (in_unit_of column unit)
unary_at node (operations.Shift periods) column = Ok (shifted column periods)
