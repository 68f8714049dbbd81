-- The nodes as the code reads them.
use Rattle.std.specs.Prelude.{Bool, true}
use Rattle.col_expr.specs.Built.{is_built_operation}
use Rattle.col_expr.specs.Node.{operation_symbol}
use Rattle.col_expr.specs.Tree.{Symbol, TakeInput, Apply}
use Rattle.col_text.specs.declared.node.Node.{Node}
use Rattle.col_text.specs.declared.node.Node.TheVariants as nodes

-- a node, as a node of a tree
abbrev pub node_symbol : Node → Symbol
node_symbol (nodes.Input index) = TakeInput index
node_symbol (nodes.Binary op) = Apply op
node_symbol (nodes.Unary operation) = operation_symbol operation

-- whether an expression can have the node so far: its cast is built
abbrev pub is_built_node : Node → Bool
is_built_node (nodes.Input index) = true
is_built_node (nodes.Binary op) = true
is_built_node (nodes.Unary operation) = is_built_operation operation
