-- The tree that a node stands for, and an operation as a node.
use Rattle.col_expr.specs.Tree.{Tree, Input, Cast, Binary, ScalarRight, ScalarLeft, InUnit, Shift}
use Rattle.col_expr.specs.Tree.{Symbol, CastTo, ApplyRight, ApplyLeft, ToUnit, ShiftBy}
use Rattle.col_expr.specs.declared.node.Node.{Node}
use Rattle.col_expr.specs.declared.node.Node.TheVariants as nodes
use Rattle.col_expr.specs.declared.node.UnaryOp.{UnaryOp}
use Rattle.col_expr.specs.declared.node.UnaryOp.TheVariants as operations

-- an operation over its operand
abbrev pub over : UnaryOp → Tree → Tree
over (operations.Cast target options) operand = Cast operand target options
over (operations.ScalarRight op k) operand = ScalarRight operand op k
over (operations.ScalarLeft k op) operand = ScalarLeft k op operand
over (operations.InUnit unit) operand = InUnit operand unit
over (operations.Shift periods) operand = Shift operand periods

-- an operation as a node without its operand
abbrev pub operation_symbol : UnaryOp → Symbol
operation_symbol (operations.Cast target options) = CastTo target options
operation_symbol (operations.ScalarRight op k) = ApplyRight op k
operation_symbol (operations.ScalarLeft k op) = ApplyLeft k op
operation_symbol (operations.InUnit unit) = ToUnit unit
operation_symbol (operations.Shift periods) = ShiftBy periods

-- the tree of a node, without where it lies in memory
abbrev pub node_tree : Node → Tree
node_tree (nodes.Input index) = Input index
node_tree (nodes.Unary' operation place operand) = over operation (node_tree operand)
node_tree (nodes.Binary' op place left second right) = Binary op (node_tree left) (node_tree right)
