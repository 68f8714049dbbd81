-- Lines and tokens known by hand, so that a wrong definition does not check.
use Rattle.std.proofs.Common.{◌≡◌, [], ◌∷◌, codes, refl}
use Rattle.col_token.specs.Lines.{lines_of}
use Rattle.col_token.specs.Tokens.{words_in, tokens_of}
use Rattle.col_token.specs.Places.{placed_token, placed_tokens}

-- no byte makes no line, and a lone line feed one
pub fewest_lines : (lines_of [] ≡ []) × (lines_of (10 ∷ []) ≡ [] ∷ [])
fewest_lines = (refl, refl)

-- an empty line counts, and the last line needs no line feed
pub three_lines : lines_of (codes "a\n\nb") ≡ codes "a" ∷ [] ∷ codes "b" ∷ []
three_lines = refl

-- a line feed at the end begins no further line
pub ended_line : lines_of (codes "a\n") ≡ codes "a" ∷ []
ended_line = refl

-- a lone carriage return is a line, and one without tokens
pub lone_return : (lines_of (13 ∷ []) ≡ (13 ∷ []) ∷ []) × (tokens_of (13 ∷ []) ≡ [])
lone_return = (refl, refl)

-- one carriage return is dropped, only at the end, and on the last line too
pub returns_dropped : (tokens_of (97 ∷ 13 ∷ []) ≡ (97 ∷ []) ∷ []) × (tokens_of (97 ∷ 13 ∷ 13 ∷ []) ≡ (97 ∷ 13 ∷ []) ∷ [])
    × (tokens_of (13 ∷ 97 ∷ []) ≡ (13 ∷ 97 ∷ []) ∷ []) × (tokens_of (97 ∷ 32 ∷ 13 ∷ []) ≡ (97 ∷ []) ∷ [])
returns_dropped = (refl, refl, refl, refl)

-- spaces and tabs part tokens, alone or many, at the front and at the end too
pub parted_tokens : tokens_of (codes "\t col  a\tdate ") ≡ codes "col" ∷ codes "a" ∷ codes "date" ∷ []
parted_tokens = refl

-- blanks alone are no token
pub blanks_alone : words_in (codes " \t ") ≡ []
blanks_alone = refl

-- a token's place counts each byte before it, and its line each line feed
pub token_places : placed_tokens (codes " a\tbc\r\n\r\nd\r")
    ≡ placed_token (codes "a") 1 1 ∷ placed_token (codes "bc") 3 1 ∷ placed_token (codes "d") 9 3 ∷ []
token_places = refl
