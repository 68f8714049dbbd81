-- Laws of lines and tokens.
use Rattle.std.specs.Prelude.{◌≡◌, ℕ, List, map}
use Rattle.std.specs.List.{flat_map}
use Rattle.col_token.specs.Lines.{lines_of}
use Rattle.col_token.specs.Tokens.{tokens_of}
use Rattle.col_token.specs.Places.{PlacedToken, placed_tokens}

-- the bytes of a token
abbrev pub text_of : PlacedToken → List ℕ
text_of token = token.text

-- the tokens of a text, places aside, are those of its lines, in order
abbrev pub HasTokensOfLines : List ℕ → Type 0
HasTokensOfLines text = map text_of (placed_tokens text) ≡ flat_map tokens_of (lines_of text)
