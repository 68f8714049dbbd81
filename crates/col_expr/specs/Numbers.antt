-- The numbers of a tree's nodes, beside the tree: a tree with fewer nodes so keeps the numbers
-- that they had in the whole one.
use Rattle.std.specs.Prelude.{ℕ, ◌+◌}
use Rattle.col_expr.specs.Tree.{Tree, Input, Cast, Binary, ScalarRight, ScalarLeft, InUnit, Shift}
use Rattle.col_expr.specs.Tree.{node_count}

-- a node's number, and those of the nodes below it
pub data Numbers : Type 0 where
  One : ℕ → Numbers
  Over : ℕ → Numbers → Numbers
  Join : ℕ → Numbers → Numbers → Numbers

-- the number of the node itself
abbrev pub number_at : Numbers → ℕ
number_at (One n) = n
number_at (Over n below) = n
number_at (Join n left right) = n

-- the numbers below a node of one operand
abbrev pub below : Numbers → Numbers
below (Over n numbers) = numbers
below numbers = numbers

-- the numbers of the left operand
abbrev pub left_of : Numbers → Numbers
left_of (Join n left right) = left
left_of numbers = numbers

-- the numbers of the right operand
abbrev pub right_of : Numbers → Numbers
right_of (Join n left right) = right
right_of numbers = numbers

-- the nodes of a tree in postfix order, numbered from `first` on
abbrev pub numbers_from : ℕ → Tree → Numbers
numbers_from first (Input index) = One first
numbers_from first (Cast operand target options) =
    Over (first + node_count operand) (numbers_from first operand)
numbers_from first (Binary op left right) =
    Join (first + node_count left + node_count right)
    (numbers_from first left) (numbers_from (first + node_count left) right)
numbers_from first (ScalarRight operand op k) =
    Over (first + node_count operand) (numbers_from first operand)
numbers_from first (ScalarLeft k op operand) =
    Over (first + node_count operand) (numbers_from first operand)
numbers_from first (InUnit operand unit) =
    Over (first + node_count operand) (numbers_from first operand)
numbers_from first (Shift operand periods) =
    Over (first + node_count operand) (numbers_from first operand)
