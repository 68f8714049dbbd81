-- A token that a line's cursor takes off stands behind the blanks at the front.
use Rattle.std.proofs.Common.{◌≡◌, ◌<◌, ◌+◌, ◌-◌, ◌∙◌, sym, ℕ, Bool, true, false, List, [], ◌∷◌, ◌++◌, length, take, drop, refl, ap, arith, length-append, length-drop, not}
use Rattle.std.specs.List.{slice_split, before_first}
use Rattle.std.specs.Str.Lines.{strip_carriage_return}
use Rattle.std.proofs.lemmas.List.Splits.{slice_split-cons_yes}
use Rattle.std.proofs.Math.Seq.{drop-append_seam}
use Rattle.std.proofs.lemmas.List.Folds.{length-prefix_len}
use Rattle.col_token.specs.Tokens.{is_blank, words_in, without_blanks}
use Rattle.col_token.specs.Places.{PlacedToken, placed_token, placed_pieces, placed_words, placed_lines}
use Rattle.col_token.specs.Lines.{lines_of}
use Rattle.col_token.proofs.WordLemmas.{word_end, word_end-more, cut, is_token-cons, without_blanks-head, without_blanks-le, words_in-headed, words_in-without_blanks}

-- an empty piece only moves the place
empty_piece : (start number : ℕ) (pieces : List (List ℕ))
    → placed_pieces start number ([] ∷ pieces) ≡ placed_pieces (start + 1) number pieces
empty_piece start number pieces =
    let one : start + 0 + 1 ≡ start + 1 = omega arith in
    ap (λ at. placed_pieces at number pieces) one

filled_piece : (start number : ℕ) (b : ℕ) (bs : List ℕ) (pieces : List (List ℕ))
    → placed_pieces start number ((b ∷ bs) ∷ pieces)
    ≡ placed_token (b ∷ bs) start number ∷ placed_pieces (start + length (b ∷ bs) + 1) number pieces
filled_piece start number b bs pieces = rw (is_token-cons b bs) refl

abbrev skipped : List ℕ → ℕ
skipped bytes = length bytes - length (without_blanks bytes)

skip_by : (start number b : ℕ) (bs : List ℕ) (blank : Bool) → is_blank b ≡ blank
    → placed_words (start + 1) number bs ≡ placed_words (start + 1 + skipped bs) number (without_blanks bs)
    → placed_words start number (b ∷ bs) ≡ placed_words (start + skipped (b ∷ bs)) number (without_blanks (b ∷ bs))
skip_by start number b bs true e h =
    let past : without_blanks (b ∷ bs) ≡ without_blanks bs = rw e refl in
    let within = without_blanks-le bs in
    let place : start + 1 + skipped bs ≡ start + (length (b ∷ bs) - length (without_blanks bs)) = omega (arith, within) in
    ap (placed_pieces start number) (slice_split-cons_yes is_blank b bs e)
    ∙ empty_piece start number (slice_split is_blank bs)
    ∙ h
    ∙ rw (past, place) refl
skip_by start number b bs false e h =
    let same : without_blanks (b ∷ bs) ≡ b ∷ bs = rw e refl in
    let place : start ≡ start + skipped (b ∷ bs) = rw same (omega arith) in
    ap (λ at. placed_words at number (b ∷ bs)) place ∙ ap (placed_words (start + skipped (b ∷ bs)) number) (sym same)

-- blanks at the front only move the place
placed_words-skip : (start number : ℕ) (bytes : List ℕ)
    → placed_words start number bytes ≡ placed_words (start + skipped bytes) number (without_blanks bytes)
placed_words-skip start number [] = let place : start ≡ start + skipped [] = omega arith in ap (λ at. placed_words at number []) place
placed_words-skip start number (b ∷ bs) = skip_by start number b bs _ refl (placed_words-skip (start + 1) number bs)

-- the word at the front stands at the place of the first byte, and the others follow it
placed_words-headed : (start number b : ℕ) (bs : List ℕ) → is_blank b ≡ false
    → placed_words start number (b ∷ bs)
    ≡ placed_token (before_first is_blank (b ∷ bs)) start number
    ∷ placed_words (start + length (before_first is_blank (b ∷ bs))) number (drop (word_end (b ∷ bs)) (b ∷ bs))
placed_words-headed start number b bs e =
    let c = cut (b ∷ bs) in
    let more = word_end-more b bs e in
    ap (placed_pieces start number) c.split
    ∙ rw more (filled_piece start number b (take (word_end bs) bs) c.pieces)
    ∙ sym (ap (λ later. placed_token (before_first is_blank (b ∷ bs)) start number ∷ later) (
    ap (placed_pieces (start + length (before_first is_blank (b ∷ bs))) number) c.rest
    ∙ empty_piece (start + length (before_first is_blank (b ∷ bs))) number c.pieces))

cut_at : (start number : ℕ) (front word rest : List ℕ) → words_in front ≡ word ∷ words_in rest → word ++ rest ≡ front
    → without_blanks front ≡ front
    → placed_words start number front ≡ placed_token word start number ∷ placed_words (start + length word) number rest
cut_at start number [] word rest words whole is = cc
cut_at start number (x ∷ xs) word rest words whole is =
    let e = without_blanks-head (x ∷ xs) x xs is in
    let headed = words_in-headed x xs e in
    let same : before_first is_blank (x ∷ xs) ≡ word = cc in
    let end : word_end (x ∷ xs) ≡ length word = sym (length-prefix_len (λ b. not (is_blank b)) (x ∷ xs)) ∙ ap length same in
    let behind : drop (word_end (x ∷ xs)) (x ∷ xs) ≡ rest = rw (end, ← whole) (drop-append_seam word rest) in
    rw (same, behind) at (placed_words-headed start number x xs e)

twice_by : (b : ℕ) (bs : List ℕ) (blank : Bool) → is_blank b ≡ blank → without_blanks (without_blanks bs) ≡ without_blanks bs
    → without_blanks (without_blanks (b ∷ bs)) ≡ without_blanks (b ∷ bs)
twice_by b bs true e h =
    let past : without_blanks (b ∷ bs) ≡ without_blanks bs = rw e refl in
    rw past h
twice_by b bs false e h =
    let same : without_blanks (b ∷ bs) ≡ b ∷ bs = rw e refl in
    ap without_blanks same

without_blanks-twice : (bytes : List ℕ) → without_blanks (without_blanks bytes) ≡ without_blanks bytes
without_blanks-twice [] = refl
without_blanks-twice (b ∷ bs) = twice_by b bs _ refl (without_blanks-twice bs)

-- the token that is cut off comes first, and the others stay where they are
pub placed_words-cut : (start number : ℕ) (bytes word rest : List ℕ)
    → words_in bytes ≡ word ∷ words_in rest → word ++ rest ≡ without_blanks bytes
    → placed_words start number bytes
    ≡ placed_token word (start + (length bytes - length rest - length word)) number
    ∷ placed_words (start + (length bytes - length rest - length word) + length word) number rest
placed_words-cut start number bytes word rest words whole =
    let size : length word + length rest ≡ length (without_blanks bytes) = sym (length-append word rest) ∙ ap length whole in
    let place : start + skipped bytes ≡ start + (length bytes - length rest - length word) = omega (arith, size) in
    placed_words-skip start number bytes
    ∙ rw (← place) (cut_at (start + skipped bytes) number (without_blanks bytes) word rest (words_in-without_blanks bytes ∙ words) whole (without_blanks-twice bytes))

none_at : (start number : ℕ) (front : List ℕ) → words_in front ≡ [] → without_blanks front ≡ front → placed_words start number front ≡ []
none_at start number [] words is = refl
none_at start number (x ∷ xs) words is = let headed = words_in-headed x xs (without_blanks-head (x ∷ xs) x xs is) in cc

-- a line without words has no tokens at any place
pub placed_words-none : (start number : ℕ) (bytes : List ℕ) → words_in bytes ≡ [] → placed_words start number bytes ≡ []
placed_words-none start number bytes words =
    placed_words-skip start number bytes
    ∙ none_at (start + skipped bytes) number (without_blanks bytes) (words_in-without_blanks bytes ∙ words) (without_blanks-twice bytes)

-- what a reader of a text has left: the words of the line that it reads, and the lines behind it
abbrev pub left : (start number : ℕ) → List ℕ → (rest_start : ℕ) → List ℕ → List PlacedToken
left start number words rest_start rest =
    placed_words start number words ++ placed_lines rest_start (number + 1) (lines_of rest)

behind_at : (rest_start number size line : ℕ) (behind : List ℕ) → (0 < length behind → size ≡ line + 1)
    → placed_lines (rest_start + size) number (lines_of behind) ≡ placed_lines (rest_start + line + 1) number (lines_of behind)
behind_at rest_start number size line [] ends = refl
behind_at rest_start number size line (b ∷ bs) ends =
    let size_is = ends (omega arith) in
    let place : rest_start + size ≡ rest_start + line + 1 = omega (arith, size_is) in
    ap (λ at. placed_lines at number (lines_of (b ∷ bs))) place

-- past a line without words the same tokens are left
pub left-next_line : (start number rest_start : ℕ) (words rest line behind : List ℕ)
    → words_in words ≡ [] → lines_of rest ≡ line ∷ lines_of behind → behind ≡ drop (length line + 1) rest
    → left rest_start (number + 1) (strip_carriage_return line) (rest_start + (length rest - length behind)) behind
    ≡ left start number words rest_start rest
left-next_line start number rest_start words rest line behind none cut is =
    let size = ap length is ∙ length-drop (length line + 1) rest in
    let ends = behind_at rest_start (number + 1 + 1) (length rest - length behind) (length line) behind (λ p. omega (arith, size, p)) in
    rw (placed_words-none start number words none, cut, ends) refl

-- where neither words nor lines are left no token is
pub left-none : (start number rest_start : ℕ) (words rest : List ℕ) → words_in words ≡ [] → length rest ≡ 0
    → left start number words rest_start rest ≡ []
left-none start number rest_start words [] none empty = rw (placed_words-none start number words none) refl
left-none start number rest_start words (b ∷ bs) none empty = absurd (omega arith)

-- a token that is cut off the line is the first one of those left
pub left-cut : (start number rest_start : ℕ) (bytes word words rest : List ℕ)
    → words_in bytes ≡ word ∷ words_in words → word ++ words ≡ without_blanks bytes
    → left start number bytes rest_start rest
    ≡ placed_token word (start + (length bytes - length words - length word)) number
    ∷ left (start + (length bytes - length words - length word) + length word) number words rest_start rest
left-cut start number rest_start bytes word words rest cut whole =
    ap (λ here. here ++ placed_lines rest_start (number + 1) (lines_of rest)) (placed_words-cut start number bytes word words cut whole)
