-- The tokens of a line.
use Rattle.std.specs.Prelude.{ℕ, ◌==◌, Bool, not, ◌||◌, List, [], ◌∷◌, filter, length}
use Rattle.std.specs.Prelude.{if◌then◌else◌}
use Rattle.std.specs.List.{slice_split}
use Rattle.std.specs.Str.Lines.{strip_carriage_return}

-- the byte of a space
abbrev pub space : ℕ
space = 32

-- the byte of a tab
abbrev pub tab : ℕ
tab = 9

-- whether a byte is a space or a tab
abbrev pub is_blank : ℕ → Bool
is_blank byte = byte == space || byte == tab

-- whether a piece between two blanks is a token: only the empty one is none
abbrev pub is_token : List ℕ → Bool
is_token piece = not (length piece == 0)

-- the longest runs of bytes without a blank, in order
abbrev pub words_in : List ℕ → List (List ℕ)
words_in bytes = filter is_token (slice_split is_blank bytes)

-- the tokens of a line: its words, where a carriage return at its end is no part of the last one
abbrev pub tokens_of : List ℕ → List (List ℕ)
tokens_of line = words_in (strip_carriage_return line)

-- what follows the blanks at the front
abbrev pub without_blanks : List ℕ → List ℕ
without_blanks [] = []
without_blanks (byte ∷ bytes) = if is_blank byte then without_blanks bytes else byte ∷ bytes
