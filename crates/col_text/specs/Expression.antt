-- The line of the expression.
use Rattle.std.specs.Prelude.{ℕ, List, Option, Some, None, option_and_then, if◌then◌else◌}
use Rattle.col_expr.specs.Tree.{Tree, Symbol, is_within_limits}
use Rattle.col_expr.specs.Postfix.{stack_with, tree_of}
use Rattle.col_text.specs.Parts.{all_read}
use Rattle.col_text.specs.Symbols.{symbol_of}

-- the nodes that the tokens spell, none where a token spells none
abbrev pub symbols_of : List (List ℕ) → List (List ℕ) → Option (List Symbol)
symbols_of zones tokens = all_read (symbol_of zones) tokens

-- the expression that stands behind `expr`: the one tree whose nodes the tokens spell
abbrev pub expression_line : List (List ℕ) → List (List ℕ) → Option Tree
expression_line zones tokens = option_and_then tree_of (symbols_of zones tokens)

-- the stack after the node that a token spells, none where it spells none or the node doesn't fit
abbrev pub stack_after_token : List (List ℕ) → List Tree → List ℕ → Option (List Tree)
stack_after_token zones stack token =
    option_and_then (λ symbol. stack_with is_within_limits symbol stack) (symbol_of zones token)

-- a tree within the limits
abbrev pub within_limits : Tree → Option Tree
within_limits tree = if is_within_limits tree then Some tree else None
