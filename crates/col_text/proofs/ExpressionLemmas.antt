-- The tokens of an expression, one after the other.
use Rattle.std.proofs.Common.{◌≡◌, ℕ, List, [], ◌∷◌, Option, Some, None, Err, refl, sym, ap, ◌∙◌}
use Rattle.std.specs.Prelude.{option_and_then}
use Rattle.col_expr.specs.Tree.{Tree, Symbol, is_within_limits}
use Rattle.col_expr.specs.Postfix.{stack_with, stack_after, only_tree}
use Rattle.col_text.specs.Symbols.{symbol_of}
use Rattle.col_text.specs.Expression.{symbols_of, stack_after_token}
use Rattle.col_text.specs.Parts.{with_first}
use Rattle.col_text.specs.Reading.{Reads, Becomes}
use Rattle.col_text.specs.declared.line_error.LineError.{LineError}
use Rattle.col_text.specs.declared.line_error.LineError.TheVariants.{Bad, NoMemory}

-- the tree that a stack and the nodes behind it make, if there is a stack
abbrev pub tree_from : Option (List Tree) → Option (List Symbol) → Option Tree
tree_from stack symbols =
    option_and_then (λ all. option_and_then only_tree (stack_after is_within_limits stack all))
    symbols

no_stack : (symbols : Option (List Symbol)) → tree_from None symbols ≡ None
no_stack None = refl
no_stack (Some []) = refl
no_stack (Some (symbol ∷ symbols)) = refl

by_symbol : (stack : List Tree) (symbol : Option Symbol) (symbols : Option (List Symbol))
    → tree_from (option_and_then (λ s. stack_with is_within_limits s stack) symbol) symbols
    ≡ tree_from (Some stack) (with_first symbol symbols)
by_symbol stack None symbols = no_stack symbols
by_symbol stack (Some symbol) None = refl
by_symbol stack (Some symbol) (Some symbols) = refl

-- a token that is read goes from the front of those that are left to the stack
pub tree_from-step : (zones : List (List ℕ)) (stack read : List Tree) (token : List ℕ)
    (tokens words : List (List ℕ)) (all : Option Tree) → words ≡ token ∷ tokens
    → stack_after_token zones stack token ≡ Some read
    → tree_from (Some stack) (symbols_of zones words) ≡ all
    → tree_from (Some read) (symbols_of zones tokens) ≡ all
tree_from-step zones stack read token tokens words all cut step h =
    sym (ap (λ s. tree_from s (symbols_of zones tokens)) step)
    ∙ by_symbol stack (symbol_of zones token) (symbols_of zones tokens)
    ∙ ap (λ left. tree_from (Some stack) (symbols_of zones left)) (sym cut)
    ∙ h

-- a token that isn't read makes the line bad, unless memory is wanting
pub tree_from-stop : (zones : List (List ℕ)) (stack new : List Tree) (token : List ℕ)
    (tokens words : List (List ℕ)) (all : Option Tree) (e : LineError) → words ≡ token ∷ tokens
    → Becomes (Err e) new (stack_after_token zones stack token)
    → tree_from (Some stack) (symbols_of zones words) ≡ all → Reads {T = Tree} (Err e) all
tree_from-stop zones stack new token tokens words all Bad cut stop h =
    sym h
    ∙ ap (λ left. tree_from (Some stack) (symbols_of zones left)) cut
    ∙ sym (by_symbol stack (symbol_of zones token) (symbols_of zones tokens))
    ∙ ap (λ s. tree_from s (symbols_of zones tokens)) stop
    ∙ no_stack (symbols_of zones tokens)
tree_from-stop zones stack new token tokens words all NoMemory cut stop h = tt
