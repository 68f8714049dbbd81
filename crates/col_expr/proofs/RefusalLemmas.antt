-- The first refusal by recursion, and by a search through the list of nodes.
use Rattle.std.proofs.Common.{◌≡◌, ℕ, ◌+◌, List, [], ◌∷◌, ◌++◌, length, Option, Some, None, refl, sym, ap, ◌∙◌, arith, length-append}
use Rattle.col_model.specs.Column.{Column}
use Rattle.col_expr.specs.declared.error.EvalError.{EvalError}
use Rattle.col_expr.specs.Tree.{Tree, Input, Cast, Binary, ScalarRight, ScalarLeft, InUnit, Shift, node_count}
use Rattle.std.specs.Option.{option_or}
use Rattle.col_expr.specs.Numbers.{numbers_from}
use Rattle.col_expr.specs.Refusal.{refusal_at, first_refusal}
use Rattle.col_expr.specs.Laws.{subtrees, first_of}

pub length-subtrees : (t : Tree) → length (subtrees t) ≡ node_count t
length-subtrees (Input index) = omega arith
length-subtrees (Cast e d o) =
    omega (arith, length-append (subtrees e) (Cast e d o ∷ []), length-subtrees e)
length-subtrees (Binary op l r) =
    omega (
      arith,
      length-append (subtrees l) (subtrees r ++ Binary op l r ∷ []),
      length-append (subtrees r) (Binary op l r ∷ []),
      length-subtrees l,
      length-subtrees r,
    )
length-subtrees (ScalarRight e op value) =
    omega (arith, length-append (subtrees e) (ScalarRight e op value ∷ []), length-subtrees e)
length-subtrees (ScalarLeft value op e) =
    omega (arith, length-append (subtrees e) (ScalarLeft value op e ∷ []), length-subtrees e)
length-subtrees (InUnit e unit) =
    omega (arith, length-append (subtrees e) (InUnit e unit ∷ []), length-subtrees e)
length-subtrees (Shift e periods) =
    omega (arith, length-append (subtrees e) (Shift e periods ∷ []), length-subtrees e)

option_or-assoc : (o p q : Option EvalError) → option_or (option_or o p) q ≡ option_or o (option_or p q)
option_or-assoc None p q = refl
option_or-assoc (Some x) p q = refl

option_or-none : (o : Option EvalError) → option_or o None ≡ o
option_or-none None = refl
option_or-none (Some x) = refl

-- the numbers go on behind the first list
pub first_of-append : (inputs : List Column) (node count : ℕ) (before after : List Tree) →
    length before ≡ count →
    first_of inputs node (before ++ after)
    ≡ option_or (first_of inputs node before) (first_of inputs (node + count) after)
first_of-append inputs node count [] after h = ap (λ k. first_of inputs k after) (omega arith)
first_of-append inputs node count (t ∷ before) after h =
    ap (option_or (refusal_at inputs node t))
    (first_of-append inputs (node + 1) (length before) before after refl
    ∙ ap (λ k. option_or (first_of inputs (node + 1) before) (first_of inputs k after))
    (omega arith))
    ∙ sym (option_or-assoc (refusal_at inputs node t) (first_of inputs (node + 1) before)
    (first_of inputs (node + count) after))

-- of an operand and the node above it
first_of-above : (inputs : List Column) (node : ℕ) (e top : Tree) →
    first_of inputs node (subtrees e ++ top ∷ []) ≡ option_or (first_of inputs node (subtrees e))
    (refusal_at inputs (node + node_count e) top)
first_of-above inputs node e top =
    first_of-append inputs node (node_count e) (subtrees e) (top ∷ []) (length-subtrees e)
    ∙ ap (option_or (first_of inputs node (subtrees e)))
    (option_or-none (refusal_at inputs (node + node_count e) top))

-- of two operands and the node above them
first_of-both : (inputs : List Column) (node : ℕ) (l r top : Tree) →
    first_of inputs node (subtrees l ++ (subtrees r ++ top ∷ []))
    ≡ option_or (first_of inputs node (subtrees l))
    (option_or (first_of inputs (node + node_count l) (subtrees r))
    (refusal_at inputs (node + node_count l + node_count r) top))
first_of-both inputs node l r top =
    first_of-append inputs node (node_count l) (subtrees l) (subtrees r ++ top ∷ [])
    (length-subtrees l)
    ∙ ap (option_or (first_of inputs node (subtrees l)))
    (first_of-above inputs (node + node_count l) r top)

-- an operand's refusals, and then that of the node above it
above : (inputs : List Column) (first : ℕ) (e top : Tree) →
    first_refusal inputs (numbers_from first e) e ≡ first_of inputs first (subtrees e) →
    option_or (first_refusal inputs (numbers_from first e) e) (refusal_at inputs (first + node_count e) top)
    ≡ first_of inputs first (subtrees e ++ top ∷ [])
above inputs first e top h =
    ap (λ o. option_or o (refusal_at inputs (first + node_count e) top)) h
    ∙ sym (first_of-above inputs first e top)

-- the recursion finds what the search finds
pub first_refusal-first_of : (inputs : List Column) (first : ℕ) (t : Tree) →
    first_refusal inputs (numbers_from first t) t ≡ first_of inputs first (subtrees t)
first_refusal-first_of inputs first (Input index) =
    sym (option_or-none (refusal_at inputs first (Input index)))
first_refusal-first_of inputs first (Cast e d o) =
    above inputs first e (Cast e d o) (first_refusal-first_of inputs first e)
first_refusal-first_of inputs first (Binary op l r) =
    ap (λ o. option_or o
    (option_or (first_refusal inputs (numbers_from (first + node_count l) r) r)
    (refusal_at inputs (first + node_count l + node_count r) (Binary op l r))))
    (first_refusal-first_of inputs first l)
    ∙ ap (λ o. option_or (first_of inputs first (subtrees l))
    (option_or o (refusal_at inputs (first + node_count l + node_count r) (Binary op l r))))
    (first_refusal-first_of inputs (first + node_count l) r)
    ∙ sym (first_of-both inputs first l r (Binary op l r))
first_refusal-first_of inputs first (ScalarRight e op value) =
    above inputs first e (ScalarRight e op value) (first_refusal-first_of inputs first e)
first_refusal-first_of inputs first (ScalarLeft value op e) =
    above inputs first e (ScalarLeft value op e) (first_refusal-first_of inputs first e)
first_refusal-first_of inputs first (InUnit e unit) =
    above inputs first e (InUnit e unit) (first_refusal-first_of inputs first e)
first_refusal-first_of inputs first (Shift e periods) =
    above inputs first e (Shift e periods) (first_refusal-first_of inputs first e)
