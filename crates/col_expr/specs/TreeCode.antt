-- A tree is given back by its list of nodes.
use Rattle.std.specs.Prelude.{◌≡◌, ℕ, ℤ, Bool, true, List, [], ◌∷◌, ◌++◌, Some, option_and_then}
use Rattle.std.specs.Prelude.{unwrap_or, refl, ◌⊎◌}
use Rattle.std.proofs.Common.{inl, inr, ap, sym, ◌∙◌, append_assoc}
use Rattle.std.specs.Coded.{Coded, code_by, coded×, coded⊎, coded_ℕ, coded_ℤ, coded_list}
use Rattle.col_types.specs.declared.data_type.DataType.{DataType}
use Rattle.col_types.specs.declared.cast_options.CastOptions.{CastOptions}
use Rattle.col_types.specs.declared.time_unit.TimeUnit.{TimeUnit}
use Rattle.col_types.specs.declared.operator.BinOp.{BinOp}
use Rattle.col_types.specs.declared.operator.ScalarOp.{ScalarOp}
use Rattle.col_types.specs.contracts.data_type.DataType as data_type
use Rattle.col_types.specs.contracts.cast_options.CastOptions as cast_options
use Rattle.col_types.specs.contracts.time_unit.TimeUnit as time_unit
use Rattle.col_types.specs.contracts.operator.BinOp as operator
use Rattle.col_types.specs.contracts.operator.ScalarOp as scalar_operator
use Rattle.col_expr.specs.Tree.{Tree, Input, Cast, Binary, ScalarRight, ScalarLeft, InUnit, Shift}
use Rattle.col_expr.specs.Tree.{Symbol, TakeInput, CastTo, Apply, ApplyRight, ApplyLeft, ToUnit}
use Rattle.col_expr.specs.Tree.{ShiftBy, postfix}
use Rattle.col_expr.specs.Postfix.{stack_after, only_tree}

-- a node without its operands, as one of seven cases
abbrev Cases : Type 0
Cases =
    ℕ ⊎ ((DataType × CastOptions) ⊎ (BinOp ⊎ ((ScalarOp × ℤ) ⊎ ((ℤ × BinOp) ⊎ (TimeUnit ⊎ ℤ)))))

-- the case of a node
abbrev cases_of : Symbol → Cases
cases_of (TakeInput index) = inl index
cases_of (CastTo dtype options) = inr (inl (dtype, options))
cases_of (Apply op) = inr (inr (inl op))
cases_of (ApplyRight op value) = inr (inr (inr (inl (op, value))))
cases_of (ApplyLeft value op) = inr (inr (inr (inr (inl (value, op)))))
cases_of (ToUnit unit) = inr (inr (inr (inr (inr (inl unit)))))
cases_of (ShiftBy periods) = inr (inr (inr (inr (inr (inr periods)))))

-- the node of a case
abbrev symbol_of : Cases → Symbol
symbol_of (inl index) = TakeInput index
symbol_of (inr (inl (dtype, options))) = CastTo dtype options
symbol_of (inr (inr (inl op))) = Apply op
symbol_of (inr (inr (inr (inl (op, value))))) = ApplyRight op value
symbol_of (inr (inr (inr (inr (inl (value, op)))))) = ApplyLeft value op
symbol_of (inr (inr (inr (inr (inr (inl unit)))))) = ToUnit unit
symbol_of (inr (inr (inr (inr (inr (inr periods)))))) = ShiftBy periods

-- a node is given back by its case
pub symbol_of-cases_of : (symbol : Symbol) → symbol_of (cases_of symbol) ≡ symbol
symbol_of-cases_of (TakeInput index) = refl
symbol_of-cases_of (CastTo dtype options) = refl
symbol_of-cases_of (Apply op) = refl
symbol_of-cases_of (ApplyRight op value) = refl
symbol_of-cases_of (ApplyLeft value op) = refl
symbol_of-cases_of (ToUnit unit) = refl
symbol_of-cases_of (ShiftBy periods) = refl

-- nodes are told apart by their cases
abbrev pub symbol_code : Coded Symbol
symbol_code =
    code_by Cases
    (coded⊎ coded_ℕ
    (coded⊎ (coded× data_type.the_row.coded cast_options.the_row.coded)
    (coded⊎ operator.the_row.coded
    (coded⊎ (coded× scalar_operator.the_row.coded coded_ℤ)
    (coded⊎ (coded× coded_ℤ operator.the_row.coded)
    (coded⊎ time_unit.the_row.coded coded_ℤ))))))
    cases_of symbol_of symbol_of-cases_of

-- every tree may stand on the stack
abbrev pub keeps_all : Tree → Bool
keeps_all tree = true

-- the nodes of a tree put it on the stack
pub stack_after-postfix : (tree : Tree) (rest : List Symbol) (stack : List Tree) →
    stack_after keeps_all (Some stack) (postfix tree ++ rest)
    ≡ stack_after keeps_all (Some (tree ∷ stack)) rest
stack_after-postfix (Input index) rest stack = refl
stack_after-postfix (Cast e d o) rest stack =
    ap (stack_after keeps_all (Some stack)) (append_assoc (postfix e) (CastTo d o ∷ []) rest)
    ∙ stack_after-postfix e (CastTo d o ∷ rest) stack
stack_after-postfix (Binary op l r) rest stack =
    ap (stack_after keeps_all (Some stack))
    (append_assoc (postfix l) (postfix r ++ Apply op ∷ []) rest)
    ∙ stack_after-postfix l ((postfix r ++ Apply op ∷ []) ++ rest) stack
    ∙ ap (stack_after keeps_all (Some (l ∷ stack))) (append_assoc (postfix r) (Apply op ∷ []) rest)
    ∙ stack_after-postfix r (Apply op ∷ rest) (l ∷ stack)
stack_after-postfix (ScalarRight e op value) rest stack =
    ap (stack_after keeps_all (Some stack))
    (append_assoc (postfix e) (ApplyRight op value ∷ []) rest)
    ∙ stack_after-postfix e (ApplyRight op value ∷ rest) stack
stack_after-postfix (ScalarLeft value op e) rest stack =
    ap (stack_after keeps_all (Some stack))
    (append_assoc (postfix e) (ApplyLeft value op ∷ []) rest)
    ∙ stack_after-postfix e (ApplyLeft value op ∷ rest) stack
stack_after-postfix (InUnit e unit) rest stack =
    ap (stack_after keeps_all (Some stack)) (append_assoc (postfix e) (ToUnit unit ∷ []) rest)
    ∙ stack_after-postfix e (ToUnit unit ∷ rest) stack
stack_after-postfix (Shift e periods) rest stack =
    ap (stack_after keeps_all (Some stack)) (append_assoc (postfix e) (ShiftBy periods ∷ []) rest)
    ∙ stack_after-postfix e (ShiftBy periods ∷ rest) stack

-- the tree that the nodes build, if they build one
abbrev pub built_from : List Symbol → Tree
built_from symbols =
    unwrap_or (option_and_then only_tree (stack_after keeps_all (Some []) symbols)) (Input 0)

append_nil' : (symbols : List Symbol) → symbols ++ [] ≡ symbols
append_nil' [] = refl
append_nil' (s ∷ symbols) = ap (λ us. s ∷ us) (append_nil' symbols)

-- a tree is given back by its nodes
pub built_from-postfix : (tree : Tree) → built_from (postfix tree) ≡ tree
built_from-postfix tree =
    ap built_from (sym (append_nil' (postfix tree)))
    ∙ ap (λ stack. unwrap_or (option_and_then only_tree stack) (Input 0))
    (stack_after-postfix tree [] [])

-- trees are told apart by their nodes
abbrev pub tree_code : Coded Tree
tree_code = code_by (List Symbol) (coded_list symbol_code) postfix built_from built_from-postfix
