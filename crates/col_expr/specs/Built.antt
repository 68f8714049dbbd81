-- Which trees an expression can hold so far, and why one is not built.
use Rattle.std.specs.Prelude.{◌≡◌, ℕ, ◌<◌, ◌≤◌, Bool, true, not, ◌&&◌, ◌||◌}
use Rattle.col_types.specs.DataType.{is_built, holds_integers}
use Rattle.col_types.specs.declared.data_type.DataType.{DataType}
use Rattle.col_expr.specs.declared.error.ExprCause.{ExprCause}
use Rattle.col_expr.specs.declared.error.ExprCause.TheVariants as causes
use Rattle.col_expr.specs.declared.node.UnaryOp.{UnaryOp}
use Rattle.col_expr.specs.declared.node.UnaryOp.TheVariants as operations
use Rattle.col_expr.specs.Tree.{Tree, Input, Cast, Binary, ScalarRight, ScalarLeft, InUnit, Shift}
use Rattle.col_expr.specs.Tree.{node_count, depth_of, max_nodes, max_depth}

-- whether a cast to the target is built: columns of the type exist, or it is a text, bytes or a
-- nested type, which is refused when it is evaluated
abbrev pub is_built_cast : DataType → Bool
is_built_cast target = is_built target || not (holds_integers target)

-- whether each cast of a tree is built
abbrev pub is_built_tree : Tree → Bool
is_built_tree (Input index) = true
is_built_tree (Cast operand target options) = is_built_cast target && is_built_tree operand
is_built_tree (Binary op left right) = is_built_tree left && is_built_tree right
is_built_tree (ScalarRight operand op k) = is_built_tree operand
is_built_tree (ScalarLeft k op operand) = is_built_tree operand
is_built_tree (InUnit operand unit) = is_built_tree operand
is_built_tree (Shift operand periods) = is_built_tree operand

-- whether an operation is built
abbrev pub is_built_operation : UnaryOp → Bool
is_built_operation (operations.Cast target options) = is_built_cast target
is_built_operation (operations.ScalarRight op k) = true
is_built_operation (operations.ScalarLeft k op) = true
is_built_operation (operations.InUnit unit) = true
is_built_operation (operations.Shift periods) = true

-- the two counts are the tree's and within the limits, and the tree is one that can be held
pub record IsExpr (nodes depth : ℕ) (tree : Tree) : Type 0 where
  pub counted : nodes ≡ node_count tree
  pub measured : depth ≡ depth_of tree
  pub small : nodes ≤ max_nodes
  pub shallow : depth ≤ max_depth
  pub built : is_built_tree tree ≡ true

-- the cause for which an expression of these counts is refused: its nodes come before its depth
abbrev pub IsRefusedFor : ℕ → ℕ → ExprCause → Type 0
IsRefusedFor nodes depth (causes.ExprTooLarge n) = (n ≡ nodes) × (max_nodes < nodes)
IsRefusedFor nodes depth (causes.ExprTooDeep n) =
    (n ≡ depth) × (nodes ≤ max_nodes) × (max_depth < depth)
IsRefusedFor nodes depth causes.NoMemory = (nodes ≤ max_nodes) × (depth ≤ max_depth)
