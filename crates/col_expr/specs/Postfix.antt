-- The tree that a list of nodes in postfix order stands for, built on a stack.
use Rattle.std.specs.Prelude.{Bool, List, [], ◌∷◌, Option, Some, None, option_and_then}
use Rattle.std.specs.Prelude.{if◌then◌else◌}
use Rattle.col_expr.specs.Tree.{Tree, Input, Cast, Binary, ScalarRight, ScalarLeft, InUnit, Shift}
use Rattle.col_expr.specs.Tree.{Symbol, TakeInput, CastTo, Apply, ApplyRight, ApplyLeft, ToUnit}
use Rattle.col_expr.specs.Tree.{ShiftBy, is_within_limits}

-- the tree on top of the stack, where it is one to keep
abbrev pub onto : (Tree → Bool) → Tree → List Tree → Option (List Tree)
onto keeps tree stack = if keeps tree then Some (tree ∷ stack) else None

-- the stack after one more node, none where an operand is missing
abbrev pub stack_with : (Tree → Bool) → Symbol → List Tree → Option (List Tree)
stack_with keeps (TakeInput index) stack = onto keeps (Input index) stack
stack_with keeps (CastTo dtype options) [] = None
stack_with keeps (CastTo dtype options) (e ∷ stack) = onto keeps (Cast e dtype options) stack
stack_with keeps (Apply op) [] = None
stack_with keeps (Apply op) (r ∷ []) = None
stack_with keeps (Apply op) (r ∷ (l ∷ stack)) = onto keeps (Binary op l r) stack
stack_with keeps (ApplyRight op value) [] = None
stack_with keeps (ApplyRight op value) (e ∷ stack) = onto keeps (ScalarRight e op value) stack
stack_with keeps (ApplyLeft value op) [] = None
stack_with keeps (ApplyLeft value op) (e ∷ stack) = onto keeps (ScalarLeft value op e) stack
stack_with keeps (ToUnit unit) [] = None
stack_with keeps (ToUnit unit) (e ∷ stack) = onto keeps (InUnit e unit) stack
stack_with keeps (ShiftBy periods) [] = None
stack_with keeps (ShiftBy periods) (e ∷ stack) = onto keeps (Shift e periods) stack

-- the stack after all of the nodes, none once one doesn't fit
abbrev pub stack_after : (Tree → Bool) → Option (List Tree) → List Symbol → Option (List Tree)
stack_after keeps None symbols = None
stack_after keeps (Some stack) [] = Some stack
stack_after keeps (Some stack) (symbol ∷ symbols) =
    stack_after keeps (stack_with keeps symbol stack) symbols

-- the one tree on the stack
abbrev pub only_tree : List Tree → Option Tree
only_tree (tree ∷ []) = Some tree
only_tree _ = None

-- the expression whose nodes these are, if there is one
abbrev pub tree_of : List Symbol → Option Tree
tree_of symbols = option_and_then only_tree (stack_after is_within_limits (Some []) symbols)
