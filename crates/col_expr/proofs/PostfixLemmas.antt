-- Trees and their lists of nodes.
use Rattle.std.proofs.Common.{◌≡◌, ℕ, ◌+◌, ◌≤◌, Bool, true, false, ◌&&◌, List, [], ◌∷◌, ◌++◌, Option, Some, None, refl, sym, ap, ◌∙◌, arith, append_assoc, max, nat_le}
use Rattle.std.specs.Prelude.{option_and_then, if◌then◌else◌}
use Rattle.std.proofs.lemmas.Bool.Decides.{nat_tests}
use Rattle.std.proofs.lemmas.List.{append-nil}
use Rattle.col_types.specs.declared.operator.BinOp.{BinOp}
use Rattle.col_expr.specs.Tree.{Tree, Input, Cast, Binary, ScalarRight, ScalarLeft, InUnit, Shift, Symbol, TakeInput, CastTo, Apply, ApplyRight, ApplyLeft, ToUnit, ShiftBy, postfix, is_within_limits, node_count, depth_of, max_nodes, max_depth}
use Rattle.col_expr.specs.Postfix.{onto, stack_with, stack_after, only_tree, tree_of}

abbrev stack_read : Option (List Tree) → List Symbol → Option (List Tree)
stack_read stack symbols = stack_after is_within_limits stack symbols

-- an operand of a tree within the limits is within them
within_below : (m n a b : ℕ) → m ≤ a → n ≤ b → (nat_le a max_nodes && nat_le b max_depth) ≡ true →
    (nat_le m max_nodes && nat_le n max_depth) ≡ true
within_below m n a b small shallow h = grind (arith, nat_tests)

operand_within : (e t : Tree) → node_count e ≤ node_count t → depth_of e ≤ depth_of t →
    is_within_limits t ≡ true → is_within_limits e ≡ true
operand_within e t small shallow h =
    within_below (node_count e) (depth_of e) (node_count t) (depth_of t) small shallow h

max-left : (m n : ℕ) → m ≤ max m n + 1
max-left m n = grind arith

max-right : (m n : ℕ) → n ≤ max m n + 1
max-right m n = grind arith

left_within : (op : BinOp) (l r : Tree) → is_within_limits (Binary op l r) ≡ true →
    is_within_limits l ≡ true
left_within op l r h =
    operand_within l (Binary op l r) (omega arith) (max-left (depth_of l) (depth_of r)) h

right_within : (op : BinOp) (l r : Tree) → is_within_limits (Binary op l r) ≡ true →
    is_within_limits r ≡ true
right_within op l r h =
    operand_within r (Binary op l r) (omega arith) (max-right (depth_of l) (depth_of r)) h

-- a tree within the limits may stand on the stack
onto_within : (t : Tree) (stack : List Tree) → is_within_limits t ≡ true →
    onto is_within_limits t stack ≡ Some (t ∷ stack)
onto_within t stack h = ap (λ b. if b then Some (t ∷ stack) else None) h

-- one more node over an operand that is read already
over : (e t : Tree) (symbol : Symbol) (rest : List Symbol) (stack : List Tree) →
    stack_with is_within_limits symbol (e ∷ stack) ≡ onto is_within_limits t stack →
    is_within_limits t ≡ true →
    stack_read (Some (e ∷ stack)) (symbol ∷ rest) ≡ stack_read (Some (t ∷ stack)) rest
over e t symbol rest stack with h = ap (λ s. stack_read s rest) (with ∙ onto_within t stack h)

-- the nodes of a tree within the limits put it on the stack
pub stack_read-postfix : (t : Tree) (rest : List Symbol) (stack : List Tree) →
    is_within_limits t ≡ true →
    stack_read (Some stack) (postfix t ++ rest) ≡ stack_read (Some (t ∷ stack)) rest
stack_read-postfix (Input index) rest stack h = refl
stack_read-postfix (Cast e d o) rest stack h =
    ap (stack_read (Some stack)) (append_assoc (postfix e) (CastTo d o ∷ []) rest)
    ∙ stack_read-postfix e (CastTo d o ∷ rest) stack
    (operand_within e (Cast e d o) (omega arith) (omega arith) h)
    ∙ over e (Cast e d o) (CastTo d o) rest stack refl h
stack_read-postfix (Binary op l r) rest stack h =
    ap (stack_read (Some stack)) (append_assoc (postfix l) (postfix r ++ Apply op ∷ []) rest)
    ∙ stack_read-postfix l ((postfix r ++ Apply op ∷ []) ++ rest) stack (left_within op l r h)
    ∙ ap (stack_read (Some (l ∷ stack))) (append_assoc (postfix r) (Apply op ∷ []) rest)
    ∙ stack_read-postfix r (Apply op ∷ rest) (l ∷ stack) (right_within op l r h)
    ∙ ap (λ s. stack_read s rest) (onto_within (Binary op l r) stack h)
stack_read-postfix (ScalarRight e op value) rest stack h =
    ap (stack_read (Some stack)) (append_assoc (postfix e) (ApplyRight op value ∷ []) rest)
    ∙ stack_read-postfix e (ApplyRight op value ∷ rest) stack
    (operand_within e (ScalarRight e op value) (omega arith) (omega arith) h)
    ∙ over e (ScalarRight e op value) (ApplyRight op value) rest stack refl h
stack_read-postfix (ScalarLeft value op e) rest stack h =
    ap (stack_read (Some stack)) (append_assoc (postfix e) (ApplyLeft value op ∷ []) rest)
    ∙ stack_read-postfix e (ApplyLeft value op ∷ rest) stack
    (operand_within e (ScalarLeft value op e) (omega arith) (omega arith) h)
    ∙ over e (ScalarLeft value op e) (ApplyLeft value op) rest stack refl h
stack_read-postfix (InUnit e unit) rest stack h =
    ap (stack_read (Some stack)) (append_assoc (postfix e) (ToUnit unit ∷ []) rest)
    ∙ stack_read-postfix e (ToUnit unit ∷ rest) stack
    (operand_within e (InUnit e unit) (omega arith) (omega arith) h)
    ∙ over e (InUnit e unit) (ToUnit unit) rest stack refl h
stack_read-postfix (Shift e periods) rest stack h =
    ap (stack_read (Some stack)) (append_assoc (postfix e) (ShiftBy periods ∷ []) rest)
    ∙ stack_read-postfix e (ShiftBy periods ∷ rest) stack
    (operand_within e (Shift e periods) (omega arith) (omega arith) h)
    ∙ over e (Shift e periods) (ShiftBy periods) rest stack refl h

-- a tree within the limits is read back from its nodes
pub tree_of-postfix : (t : Tree) → is_within_limits t ≡ true → tree_of (postfix t) ≡ Some t
tree_of-postfix t h =
    ap (λ symbols. option_and_then only_tree (stack_read (Some []) symbols))
    (sym (append-nil (postfix t)))
    ∙ ap (option_and_then only_tree) (stack_read-postfix t [] [] h)

-- ---- at most one tree fits

-- the nodes of the trees on a stack, those of the lowest first
abbrev written : List Tree → List Symbol
written [] = []
written (t ∷ stack) = written stack ++ postfix t

-- a tree that is put on the stack, with its nodes
onto_written : (t : Tree) (stack new : List Tree) (b : Bool) →
    (if b then Some (t ∷ stack) else None) ≡ Some new → written new ≡ written stack ++ postfix t
onto_written t stack new true h = let e : t ∷ stack ≡ new = cc in ap written (sym e)
onto_written t stack new false h = cc

-- one more node is written behind the others
with_written : (symbol : Symbol) (stack new : List Tree) →
    stack_with is_within_limits symbol stack ≡ Some new → written new ≡ written stack ++ symbol ∷ []
with_written (TakeInput index) stack new h =
    onto_written (Input index) stack new (is_within_limits (Input index)) h
with_written (CastTo d o) [] new h = cc
with_written (CastTo d o) (e ∷ stack) new h =
    onto_written (Cast e d o) stack new (is_within_limits (Cast e d o)) h
    ∙ sym (append_assoc (written stack) (postfix e) (CastTo d o ∷ []))
with_written (Apply op) [] new h = cc
with_written (Apply op) (r ∷ []) new h = cc
with_written (Apply op) (r ∷ (l ∷ stack)) new h =
    onto_written (Binary op l r) stack new (is_within_limits (Binary op l r)) h
    ∙ sym (append_assoc (written stack) (postfix l) (postfix r ++ Apply op ∷ []))
    ∙ sym (append_assoc (written stack ++ postfix l) (postfix r) (Apply op ∷ []))
with_written (ApplyRight op value) [] new h = cc
with_written (ApplyRight op value) (e ∷ stack) new h =
    onto_written (ScalarRight e op value) stack new (is_within_limits (ScalarRight e op value)) h
    ∙ sym (append_assoc (written stack) (postfix e) (ApplyRight op value ∷ []))
with_written (ApplyLeft value op) [] new h = cc
with_written (ApplyLeft value op) (e ∷ stack) new h =
    onto_written (ScalarLeft value op e) stack new (is_within_limits (ScalarLeft value op e)) h
    ∙ sym (append_assoc (written stack) (postfix e) (ApplyLeft value op ∷ []))
with_written (ToUnit unit) [] new h = cc
with_written (ToUnit unit) (e ∷ stack) new h =
    onto_written (InUnit e unit) stack new (is_within_limits (InUnit e unit)) h
    ∙ sym (append_assoc (written stack) (postfix e) (ToUnit unit ∷ []))
with_written (ShiftBy periods) [] new h = cc
with_written (ShiftBy periods) (e ∷ stack) new h =
    onto_written (Shift e periods) stack new (is_within_limits (Shift e periods)) h
    ∙ sym (append_assoc (written stack) (postfix e) (ShiftBy periods ∷ []))

-- what is written behind one more node, from what is written behind the nodes after it
step_written : (symbol : Symbol) (symbols : List Symbol) (stack new : List Tree)
    (next : Option (List Tree)) →
    ((mid : List Tree) → stack_read (Some mid) symbols ≡ Some new →
    written new ≡ written mid ++ symbols) →
    stack_with is_within_limits symbol stack ≡ next → stack_read next symbols ≡ Some new →
    written new ≡ written stack ++ symbol ∷ symbols
step_written symbol [] stack new None after with h = cc
step_written symbol (s ∷ symbols) stack new None after with h = cc
step_written symbol symbols stack new (Some mid) after with h =
    after mid h
    ∙ ap (λ w. w ++ symbols) (with_written symbol stack mid with)
    ∙ append_assoc (written stack) (symbol ∷ []) symbols

-- all nodes are written behind the others
after_written : (symbols : List Symbol) (stack new : List Tree) →
    stack_read (Some stack) symbols ≡ Some new → written new ≡ written stack ++ symbols
after_written [] stack new h =
    let e : stack ≡ new = cc in ap written (sym e) ∙ sym (append-nil (written stack))
after_written (symbol ∷ symbols) stack new h =
    step_written symbol symbols stack new (stack_with is_within_limits symbol stack)
    (λ mid k. after_written symbols mid new k) refl h

from_stack : (symbols : List Symbol) (t : Tree) (stack : Option (List Tree)) →
    stack_read (Some []) symbols ≡ stack → option_and_then only_tree stack ≡ Some t →
    postfix t ≡ symbols
from_stack symbols t None read h = cc
from_stack symbols t (Some []) read h = cc
from_stack symbols t (Some (u ∷ [])) read h =
    let e : u ≡ t = cc in ap postfix (sym e) ∙ after_written symbols [] (u ∷ []) read
from_stack symbols t (Some (u ∷ (v ∷ stack))) read h = cc

-- nodes that are read as a tree are the nodes of that tree
pub postfix-tree_of : (symbols : List Symbol) (t : Tree) → tree_of symbols ≡ Some t →
    postfix t ≡ symbols
postfix-tree_of symbols t h = from_stack symbols t (stack_read (Some []) symbols) refl h
