-- Laws that are stated here and proved at the functions that cite them.
use Rattle.std.specs.Prelude.{◌≡◌, ℕ, ℤ, ◌+◌, Bool, true, false, List, [], ◌∷◌, ◌++◌, length}
use Rattle.std.specs.Prelude.{Option, Some, None, is_some, Result, IfErr}
use Rattle.std.specs.Option.{option_or}
use Rattle.col_types.specs.declared.data_type.DataType.{DataType}
use Rattle.col_types.specs.declared.cast_options.CastOptions.{CastOptions}
use Rattle.col_types.specs.declared.time_unit.TimeUnit.{TimeUnit}
use Rattle.col_types.specs.declared.operator.BinOp.{BinOp}
use Rattle.col_types.specs.declared.operator.ScalarOp.{ScalarOp}
use Rattle.col_types.specs.declared.error.PolarsError.{PolarsError}
use Rattle.col_types.specs.declared.error.PolarsError.TheVariants as errors
use Rattle.col_model.specs.Column.{Column}
use Rattle.col_model.specs.ColumnCalls.{cast_of}
use Rattle.col_model.specs.OperatorCalls.{binary_of, scalar_right_of, scalar_left_of, in_unit_of}
use Rattle.col_expr.specs.declared.error.EvalError.{EvalError}
use Rattle.col_expr.specs.declared.error.EvalError.TheVariants as refusals
use Rattle.col_expr.specs.Tree.{Tree, Input, Cast, Binary, ScalarRight, ScalarLeft, InUnit, Shift}
use Rattle.col_expr.specs.Tree.{Symbol, is_within_limits, postfix}
use Rattle.col_expr.specs.Postfix.{tree_of}
use Rattle.col_expr.specs.Numbers.{Numbers, numbers_from}
use Rattle.col_expr.specs.Meaning.{name_of, dtype_of, rows_of}
use Rattle.col_expr.specs.Refusal.{at_node, refusal_at, first_refusal, outcome_by}

-- ---- the first refused node

-- each node with all below it, in postfix order
abbrev pub subtrees : Tree → List Tree
subtrees (Input index) = Input index ∷ []
subtrees (Cast operand dtype options) = subtrees operand ++ Cast operand dtype options ∷ []
subtrees (Binary op left right) = subtrees left ++ (subtrees right ++ Binary op left right ∷ [])
subtrees (ScalarRight operand op value) = subtrees operand ++ ScalarRight operand op value ∷ []
subtrees (ScalarLeft value op operand) = subtrees operand ++ ScalarLeft value op operand ∷ []
subtrees (InUnit operand unit) = subtrees operand ++ InUnit operand unit ∷ []
subtrees (Shift operand periods) = subtrees operand ++ Shift operand periods ∷ []

-- the refusal of the first refused tree of a list whose numbers start at `node`
abbrev pub first_of : List Column → ℕ → List Tree → Option EvalError
first_of inputs node [] = None
first_of inputs node (tree ∷ trees) =
    option_or (refusal_at inputs node tree) (first_of inputs (node + 1) trees)

-- the recursion on the tree finds what the search through the list of nodes finds
abbrev pub RefusalsInPostfixOrder : Type 0
RefusalsInPostfixOrder =
    (inputs : List Column) (first : ℕ) (tree : Tree) →
    first_refusal inputs (numbers_from first tree) tree ≡ first_of inputs first (subtrees tree)

-- the name, the type and the rows of a node are defined, and so each slot below its rows
pub record IsDefined (inputs : List Column) (tree : Tree) : Type 0 where
  pub named : is_some (name_of inputs tree) ≡ true
  pub typed : is_some (dtype_of inputs tree) ≡ true
  pub long : is_some (rows_of inputs tree) ≡ true

-- the operands of a node are defined
abbrev pub HasDefinedOperands : List Column → Tree → Type 0
HasDefinedOperands inputs (Input index) = Unit {0}
HasDefinedOperands inputs (Cast operand target options) = IsDefined inputs operand
HasDefinedOperands inputs (Binary op left right) = IsDefined inputs left × IsDefined inputs right
HasDefinedOperands inputs (ScalarRight operand op k) = IsDefined inputs operand
HasDefinedOperands inputs (ScalarLeft k op operand) = IsDefined inputs operand
HasDefinedOperands inputs (InUnit operand unit) = IsDefined inputs operand
HasDefinedOperands inputs (Shift operand periods) = IsDefined inputs operand

-- where neither a node nor one below it is refused, the node is defined
abbrev pub DefinedWhereNotRefused : Type 0
DefinedWhereNotRefused =
    (inputs : List Column) (numbers : Numbers) (tree : Tree) →
    first_refusal inputs numbers tree ≡ None → IsDefined inputs tree

-- a refused node of a tree: no node before it is refused, and its operands are defined
pub record IsLeastRefused (inputs : List Column) (first : ℕ) (tree : Tree) (error : EvalError) :
    Type 0 where
  pub before : List Tree
  pub node : Tree
  pub after : List Tree
  pub stands : subtrees tree ≡ before ++ node ∷ after
  pub none_before : first_of inputs first before ≡ None
  pub refused : refusal_at inputs (first + length before) node ≡ Some error
  pub defined : HasDefinedOperands inputs node

-- the first refusal is that of the least refused node, whose operands are defined
abbrev pub LeastRefusedNode : Type 0
LeastRefusedNode =
    (inputs : List Column) (first : ℕ) (tree : Tree) (error : EvalError) →
    first_refusal inputs (numbers_from first tree) tree ≡ Some error →
    IsLeastRefused inputs first tree error

-- ---- the causes of nodes

-- the causes for which a call that a node makes can be refused, want of memory aside
abbrev pub is_node_cause : PolarsError → Bool
is_node_cause (errors.Lengths left right) = true
is_node_cause (errors.Types op left right) = true
is_node_cause (errors.CastPair from to) = true
is_node_cause (errors.BadType dtype) = true
is_node_cause (errors.Scale scale) = true
is_node_cause (errors.Scalar value) = true
is_node_cause (errors.Strict row) = true
is_node_cause error = false

-- what a call of a node answers, or one of these causes
abbrev pub IsNodeAnswer : {T : Type 0} → Result T PolarsError → Type 0
IsNodeAnswer answer = IfErr answer (λ error. is_node_cause error ≡ true)

-- a cast of a column
abbrev pub CastsAreNodeAnswers : Type 0
CastsAreNodeAnswers =
    (column : Column) (target : DataType) (options : CastOptions) →
    IsNodeAnswer (cast_of column target options)

-- two columns joined
abbrev pub OperatorsAreNodeAnswers : Type 0
OperatorsAreNodeAnswers =
    (op : BinOp) (left right : Column) → IsNodeAnswer (binary_of op left right)

-- a column with an integer on its right
abbrev pub RightScalarsAreNodeAnswers : Type 0
RightScalarsAreNodeAnswers =
    (column : Column) (op : ScalarOp) (k : ℤ) → IsNodeAnswer (scalar_right_of column op k)

-- an integer with a column on its right
abbrev pub LeftScalarsAreNodeAnswers : Type 0
LeftScalarsAreNodeAnswers =
    (k : ℤ) (op : BinOp) (column : Column) → IsNodeAnswer (scalar_left_of k op column)

-- a column in another unit
abbrev pub UnitChangesAreNodeAnswers : Type 0
UnitChangesAreNodeAnswers =
    (column : Column) (unit : TimeUnit) → IsNodeAnswer (in_unit_of column unit)

-- no cause but want of memory is told as want of memory
abbrev pub MemoryAlone : Type 0
MemoryAlone =
    (node : ℕ) (error : PolarsError) → at_node node error ≡ refusals.NoMemory →
    error ≡ errors.NoMemory

-- whether a refusal names its node: all do but want of memory
abbrev pub names_node : EvalError → Bool
names_node refusals.NoMemory = false
names_node error = true

-- no tree is refused for want of memory: that is the evaluation's alone
abbrev pub OutcomesNameTheirNode : Type 0
OutcomesNameTheirNode =
    (inputs : List Column) (numbers : Numbers) (tree : Tree) →
    IfErr (outcome_by inputs numbers tree) (λ error. names_node error ≡ true)

-- ---- trees and their lists of nodes

-- the nodes of a tree within the limits stand for that tree
abbrev pub TreesReadBack : Type 0
TreesReadBack = (tree : Tree) → is_within_limits tree ≡ true → tree_of (postfix tree) ≡ Some tree

-- nodes that stand for a tree are the nodes of that tree
abbrev pub OneTreeFits : Type 0
OneTreeFits =
    (symbols : List Symbol) (tree : Tree) → tree_of symbols ≡ Some tree → postfix tree ≡ symbols
