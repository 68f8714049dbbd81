-- The tokens of a text, each with its place and the number of its line.
use Rattle.std.specs.Prelude.{◌≡◌, ℕ, ◌+◌, List, [], ◌∷◌, ◌++◌, length, take, drop, if◌then◌else◌}
use Rattle.std.specs.List.{count_by, slice_split}
use Rattle.std.specs.Str.Lines.{strip_carriage_return}
use Rattle.col_token.specs.Lines.{is_line_feed, lines_of}
use Rattle.col_token.specs.Tokens.{is_blank, is_token}

-- the most bytes of a text whose places and lines are told
abbrev pub longest_text : ℕ
longest_text = 16_777_216

-- a token of a text: its bytes, the place of the first one from 0, and the number of its line
-- from 1
pub record PlacedToken : Type 0 where
  pub text : List ℕ
  pub start : ℕ
  pub line : ℕ

-- a token with these bytes, this place and this line
abbrev pub placed_token : List ℕ → ℕ → ℕ → PlacedToken
placed_token text start line = record { text = text; start = start; line = line }

-- the tokens among the pieces of a line, where the first piece has the place start,
-- and each further one begins one byte behind the end of the one before it
abbrev pub placed_pieces : ℕ → ℕ → List (List ℕ) → List PlacedToken
placed_pieces start line [] = []
placed_pieces start line (piece ∷ pieces) =
    if is_token piece
    then placed_token piece start line ∷ placed_pieces (start + length piece + 1) line pieces
    else placed_pieces (start + length piece + 1) line pieces

-- the tokens of a line's content whose first byte has the place start
abbrev pub placed_words : ℕ → ℕ → List ℕ → List PlacedToken
placed_words start line bytes = placed_pieces start line (slice_split is_blank bytes)

-- the tokens of lines, where the first one has the place start and this number,
-- and each further one begins one byte behind the end of the one before it
abbrev pub placed_lines : ℕ → ℕ → List (List ℕ) → List PlacedToken
placed_lines start number [] = []
placed_lines start number (line ∷ lines) =
    placed_words start number (strip_carriage_return line)
    ++ placed_lines (start + length line + 1) (number + 1) lines

-- the tokens of a text, in order
abbrev pub placed_tokens : List ℕ → List PlacedToken
placed_tokens text = placed_lines 0 1 (lines_of text)

-- the token's bytes stand in the text at its place, and the line feeds before them tell its line
pub record StandsIn (text : List ℕ) (token : PlacedToken) : Type 0 where
  pub bytes : take (length token.text) (drop token.start text) ≡ token.text
  pub line : count_by is_line_feed (take token.start text) + 1 ≡ token.line
