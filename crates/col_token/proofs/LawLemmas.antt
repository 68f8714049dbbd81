-- The tokens of a text with their places are the tokens of its lines.
use Rattle.std.proofs.Common.{◌≡◌, ◌∙◌, ◌+◌, ℕ, Bool, true, false, List, [], ◌∷◌, ◌++◌, map, filter, length, refl, ap}
use Rattle.std.specs.Prelude.{if◌then◌else◌}
use Rattle.std.specs.List.{flat_map, slice_split}
use Rattle.std.specs.Str.Lines.{strip_carriage_return}
use Rattle.col_token.specs.Lines.{lines_of}
use Rattle.col_token.specs.Tokens.{is_blank, is_token, tokens_of}
use Rattle.col_token.specs.Places.{PlacedToken, placed_token, placed_pieces, placed_words, placed_lines}
use Rattle.col_token.specs.Laws.{text_of, HasTokensOfLines}

texts_of-append : (tokens more : List PlacedToken)
    → map text_of (tokens ++ more) ≡ map text_of tokens ++ map text_of more
texts_of-append [] more = refl
texts_of-append (token ∷ tokens) more = ap (λ texts. text_of token ∷ texts) (texts_of-append tokens more)

by_test : (start line : ℕ) (piece : List ℕ) (tokens : List PlacedToken) (pieces : List (List ℕ)) (test : Bool)
    → map text_of tokens ≡ pieces
    → map text_of (if test then placed_token piece start line ∷ tokens else tokens)
    ≡ (if test then piece ∷ pieces else pieces)
by_test start line piece tokens pieces true e = ap (λ texts. piece ∷ texts) e
by_test start line piece tokens pieces false e = e

texts_of-pieces : (start line : ℕ) (pieces : List (List ℕ))
    → map text_of (placed_pieces start line pieces) ≡ filter is_token pieces
texts_of-pieces start line [] = refl
texts_of-pieces start line (piece ∷ pieces) =
    by_test start line piece (placed_pieces (start + length piece + 1) line pieces)
    (filter is_token pieces) (is_token piece) (texts_of-pieces (start + length piece + 1) line pieces)

texts_of-lines : (start number : ℕ) (lines : List (List ℕ))
    → map text_of (placed_lines start number lines) ≡ flat_map tokens_of lines
texts_of-lines start number [] = refl
texts_of-lines start number (line ∷ lines) =
    let words = placed_words start number (strip_carriage_return line) in
    let rest = placed_lines (start + length line + 1) (number + 1) lines in
    texts_of-append words rest
    ∙ ap (λ texts. texts ++ map text_of rest)
    (texts_of-pieces start number (slice_split is_blank (strip_carriage_return line)))
    ∙ ap (λ texts. tokens_of line ++ texts) (texts_of-lines (start + length line + 1) (number + 1) lines)

-- places aside, the tokens of a text are those of its lines
pub texts_of-tokens : (text : List ℕ) → HasTokensOfLines text
texts_of-tokens text = texts_of-lines 0 1 (lines_of text)
