-- The tree of an expression, and its list of nodes.
use Rattle.std.specs.Prelude.{ℕ, ◌+◌, ℤ, max, Bool, ◌&&◌, nat_le, List, [], ◌∷◌, ◌++◌}
use Rattle.col_types.specs.declared.data_type.DataType.{DataType}
use Rattle.col_types.specs.declared.cast_options.CastOptions.{CastOptions}
use Rattle.col_types.specs.declared.time_unit.TimeUnit.{TimeUnit}
use Rattle.col_types.specs.declared.operator.BinOp.{BinOp}
use Rattle.col_types.specs.declared.operator.ScalarOp.{ScalarOp}

-- an expression over columns that are named by their number
pub data Tree : Type 0 where
  Input : ℕ → Tree
  Cast : Tree → DataType → CastOptions → Tree
  Binary : BinOp → Tree → Tree → Tree
  ScalarRight : Tree → ScalarOp → ℤ → Tree
  ScalarLeft : ℤ → BinOp → Tree → Tree
  InUnit : Tree → TimeUnit → Tree
  Shift : Tree → ℤ → Tree

-- how many nodes the tree has
abbrev pub node_count : Tree → ℕ
node_count (Input index) = 1
node_count (Cast operand dtype options) = node_count operand + 1
node_count (Binary op left right) = node_count left + node_count right + 1
node_count (ScalarRight operand op value) = node_count operand + 1
node_count (ScalarLeft value op operand) = node_count operand + 1
node_count (InUnit operand unit) = node_count operand + 1
node_count (Shift operand periods) = node_count operand + 1

-- how many nodes stand on its longest path
abbrev pub depth_of : Tree → ℕ
depth_of (Input index) = 1
depth_of (Cast operand dtype options) = depth_of operand + 1
depth_of (Binary op left right) = max (depth_of left) (depth_of right) + 1
depth_of (ScalarRight operand op value) = depth_of operand + 1
depth_of (ScalarLeft value op operand) = depth_of operand + 1
depth_of (InUnit operand unit) = depth_of operand + 1
depth_of (Shift operand periods) = depth_of operand + 1

-- the most nodes of an expression
abbrev pub max_nodes : ℕ
max_nodes = 1048576

-- the greatest depth of an expression
abbrev pub max_depth : ℕ
max_depth = 512

-- whether the tree may be an expression
abbrev pub is_within_limits : Tree → Bool
is_within_limits tree = nat_le (node_count tree) max_nodes && nat_le (depth_of tree) max_depth

-- a node without its operands
pub data Symbol : Type 0 where
  TakeInput : ℕ → Symbol
  CastTo : DataType → CastOptions → Symbol
  Apply : BinOp → Symbol
  ApplyRight : ScalarOp → ℤ → Symbol
  ApplyLeft : ℤ → BinOp → Symbol
  ToUnit : TimeUnit → Symbol
  ShiftBy : ℤ → Symbol

-- the nodes in postfix order: the left operand's, the right one's, then the node itself
abbrev pub postfix : Tree → List Symbol
postfix (Input index) = TakeInput index ∷ []
postfix (Cast operand dtype options) = postfix operand ++ CastTo dtype options ∷ []
postfix (Binary op left right) = postfix left ++ (postfix right ++ Apply op ∷ [])
postfix (ScalarRight operand op value) = postfix operand ++ ApplyRight op value ∷ []
postfix (ScalarLeft value op operand) = postfix operand ++ ApplyLeft value op ∷ []
postfix (InUnit operand unit) = postfix operand ++ ToUnit unit ∷ []
postfix (Shift operand periods) = postfix operand ++ ShiftBy periods ∷ []
