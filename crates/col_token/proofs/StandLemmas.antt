-- Each token of a text stands there at its place, on its line.
use Rattle.std.proofs.Common.{◌≡◌, ◌<◌, ◌+◌, ◌-◌, ◌∙◌, sym, ℕ, Bool, true, false, List, [], ◌∷◌, ◌++◌, length, drop, refl, ap, arith, count_by, All, if◌then◌else◌, ◌==◌, slice_index, append_assoc, length-append, take-append-drop}
use Rattle.std.proofs.Math.Seq.{take-append_seam, drop-append_seam}
use Rattle.std.proofs.lemmas.List.{append-nil}
use Rattle.std.proofs.lemmas.List.Sums.{sum_by-append}
use Rattle.std.proofs.lemmas.List.Elements.{All-nil, All-cons, All-append}
use Rattle.std.specs.List.{slice_split, onto_first}
use Rattle.std.specs.Str.Lines.{strip_carriage_return}
use Rattle.col_token.specs.Lines.{is_line_feed, lines_of}
use Rattle.col_token.specs.Tokens.{is_blank, is_token}
use Rattle.col_token.specs.Places.{PlacedToken, StandsIn, placed_token, placed_pieces, placed_words, placed_lines, placed_tokens}

abbrev feeds : List ℕ → ℕ
feeds bytes = count_by is_line_feed bytes

feeds-append : (xs ys : List ℕ) → feeds (xs ++ ys) ≡ feeds xs + feeds ys
feeds-append xs ys = sum_by-append _ xs ys

stands_at : (text front word behind : List ℕ) (number : ℕ) → text ≡ front ++ (word ++ behind) → feeds front + 1 ≡ number
    → StandsIn text (placed_token word (length front) number)
stands_at text front word behind number whole count = record {
  bytes = rw (whole, drop-append_seam front (word ++ behind)) (take-append_seam word behind);
  line = rw (whole, take-append_seam front (word ++ behind)) count;
}

-- pieces with one byte between each two of them
abbrev AreParted : List ℕ → List (List ℕ) → Type 0
AreParted bytes [] = ⊥
AreParted bytes (piece ∷ []) = bytes ≡ piece
AreParted bytes (piece ∷ next ∷ more) =
    (byte : ℕ) × (behind : List ℕ) × (bytes ≡ piece ++ byte ∷ behind) × AreParted behind (next ∷ more)

parted-empty : (b : ℕ) (bs : List ℕ) (pieces : List (List ℕ)) → AreParted bs pieces → AreParted (b ∷ bs) ([] ∷ pieces)
parted-empty b bs [] h = absurd h
parted-empty b bs (piece ∷ more) h = (b, bs, refl, h)

parted-onto : (b : ℕ) (bs : List ℕ) (pieces : List (List ℕ)) → AreParted bs pieces → AreParted (b ∷ bs) (onto_first b pieces)
parted-onto b bs [] h = absurd h
parted-onto b bs (piece ∷ []) h = ap (λ xs. b ∷ xs) h
parted-onto b bs (piece ∷ next ∷ more) h = (h.0, h.1, ap (λ xs. b ∷ xs) h.2, h.3)

parted_by : (b : ℕ) (bs : List ℕ) (blank : Bool) → is_blank b ≡ blank → AreParted bs (slice_split is_blank bs)
    → AreParted (b ∷ bs) (slice_split is_blank (b ∷ bs))
parted_by b bs true e h = rw e (parted-empty b bs (slice_split is_blank bs) h)
parted_by b bs false e h = rw e (parted-onto b bs (slice_split is_blank bs) h)

are-parted : (bytes : List ℕ) → AreParted bytes (slice_split is_blank bytes)
are-parted [] = refl
are-parted (b ∷ bs) = parted_by b bs _ refl (are-parted bs)

chosen : (text : List ℕ) (token : PlacedToken) (more : List PlacedToken) (is : Bool) → StandsIn text token → All (StandsIn text) more
    → All (StandsIn text) (if is then token ∷ more else more)
chosen text token more true here later = All-cons (StandsIn text) token more here later
chosen text token more false here later = later

pieces_stand : (text front bytes behind : List ℕ) (number : ℕ) (pieces : List (List ℕ))
    → text ≡ front ++ (bytes ++ behind) → feeds front + 1 ≡ number → feeds bytes ≡ 0 → AreParted bytes pieces
    → All (StandsIn text) (placed_pieces (length front) number pieces)
pieces_stand text front bytes behind number [] whole count none parted = absurd parted
pieces_stand text front bytes behind number (piece ∷ []) whole count none parted =
    chosen text (placed_token piece (length front) number) [] (is_token piece)
    (stands_at text front piece behind number (whole ∙ ap (λ xs. front ++ (xs ++ behind)) parted) count)
    (All-nil (StandsIn text))
pieces_stand text front bytes behind number (piece ∷ next ∷ more) whole count none parted =
    let byte = parted.0 in
    let later = parted.1 in
    let cut : bytes ≡ (piece ++ byte ∷ []) ++ later = parted.2 ∙ sym (append_assoc piece (byte ∷ []) later) in
    let here : text ≡ front ++ (piece ++ (byte ∷ later ++ behind)) =
    whole ∙ ap (λ xs. front ++ (xs ++ behind)) parted.2 ∙ ap (λ xs. front ++ xs) (append_assoc piece (byte ∷ later) behind) in
    let there : text ≡ (front ++ (piece ++ byte ∷ [])) ++ (later ++ behind) =
    whole ∙ ap (λ xs. front ++ (xs ++ behind)) cut ∙ ap (λ xs. front ++ xs) (append_assoc (piece ++ byte ∷ []) later behind)
    ∙ sym (append_assoc front (piece ++ byte ∷ []) (later ++ behind)) in
    let split = ap feeds cut ∙ feeds-append (piece ++ byte ∷ []) later in
    let before = feeds-append front (piece ++ byte ∷ []) in
    let size = length-append front (piece ++ byte ∷ []) in
    let wide = length-append piece (byte ∷ []) in
    let place : length (front ++ (piece ++ byte ∷ [])) ≡ length front + length piece + 1 = omega (arith, size, wide) in
    chosen text (placed_token piece (length front) number) _ (is_token piece)
    (stands_at text front piece (byte ∷ later ++ behind) number here count)
    (rw place at (pieces_stand text (front ++ (piece ++ byte ∷ [])) later behind number (next ∷ more) there
    (omega (arith, count, before, split, none)) (omega (arith, split, none)) parted.3))

-- a line without its carriage return, and that return where there is one
record Stripped (line : List ℕ) : Type 0 where
  pub return : List ℕ
  pub whole : strip_carriage_return line ++ return ≡ line

stripped_by : (line : List ℕ) (is : Bool) → (slice_index line (length line - 1) == 13) ≡ is → Stripped line
stripped_by line true e = record {
  return = drop (length line - 1) line;
  whole = rw e (take-append-drop (length line - 1) line);
}
stripped_by line false e = record { return = []; whole = rw e (append-nil line) }

-- lines without a line feed in them, with one between each two of them
abbrev AreLines : List ℕ → List (List ℕ) → Type 0
AreLines bytes [] = bytes ≡ []
AreLines bytes (line ∷ lines) =
    (end : List ℕ) × (behind : List ℕ) × (bytes ≡ (line ++ end) ++ behind) × (feeds line ≡ 0)
    × (0 < length lines → (length end ≡ 1) × (feeds end ≡ 1)) × AreLines behind lines

lines-onto : (b : ℕ) (bs : List ℕ) (lines : List (List ℕ)) → is_line_feed b ≡ false → AreLines bs lines
    → AreLines (b ∷ bs) (onto_first b lines)
lines-onto b bs [] e h = ([], [], ap (λ xs. b ∷ xs) h, rw e refl, λ p. absurd (omega (arith, p)), refl)
lines-onto b bs (line ∷ lines) e h = (h.0, h.1, ap (λ xs. b ∷ xs) h.2, rw e h.3, h.4, h.5)

lines_by : (b : ℕ) (bs : List ℕ) (ends : Bool) → is_line_feed b ≡ ends → AreLines bs (lines_of bs)
    → AreLines (b ∷ bs) (lines_of (b ∷ bs))
lines_by b bs true e h =
    let one : feeds (b ∷ []) ≡ 1 = rw e refl in
    rw e (b ∷ [], bs, refl, refl, λ p. (refl, one), h)
lines_by b bs false e h = rw e (lines-onto b bs (lines_of bs) e h)

are-lines : (bytes : List ℕ) → AreLines bytes (lines_of bytes)
are-lines [] = refl
are-lines (b ∷ bs) = lines_by b bs _ refl (are-lines bs)

words_stand : (text front line behind : List ℕ) (number : ℕ) → text ≡ front ++ (line ++ behind) → feeds front + 1 ≡ number → feeds line ≡ 0
    → All (StandsIn text) (placed_words (length front) number (strip_carriage_return line))
words_stand text front line behind number whole count none =
    let stripped = stripped_by line _ refl in
    let content = strip_carriage_return line in
    let split = sym (feeds-append content stripped.return) ∙ ap feeds stripped.whole in
    let here : text ≡ front ++ (content ++ (stripped.return ++ behind)) =
    whole ∙ ap (λ xs. front ++ (xs ++ behind)) (sym stripped.whole)
    ∙ ap (λ xs. front ++ xs) (append_assoc content stripped.return behind) in
    pieces_stand text front content (stripped.return ++ behind) number (slice_split is_blank content)
    here count (omega (arith, split, none)) (are-parted content)

lines_stand : (text front rest : List ℕ) (number : ℕ) (lines : List (List ℕ))
    → text ≡ front ++ rest → feeds front + 1 ≡ number → AreLines rest lines
    → All (StandsIn text) (placed_lines (length front) number lines)
lines_stand text front rest number [] whole count are = All-nil (StandsIn text)
lines_stand text front rest number (line ∷ []) whole count are =
    All-append (StandsIn text) (placed_words (length front) number (strip_carriage_return line)) []
    (words_stand text front line (are.0 ++ are.1) number (whole ∙ ap (λ xs. front ++ xs) (are.2 ∙ append_assoc line are.0 are.1)) count are.3)
    (All-nil (StandsIn text))
lines_stand text front rest number (line ∷ next ∷ more) whole count are =
    let end = are.0 in
    let behind = are.1 in
    let parted = are.4 (omega arith) in
    let there : text ≡ (front ++ (line ++ end)) ++ behind =
    whole ∙ ap (λ xs. front ++ xs) are.2 ∙ sym (append_assoc front (line ++ end) behind) in
    let before = feeds-append front (line ++ end) in
    let within = feeds-append line end in
    let size = length-append front (line ++ end) in
    let wide = length-append line end in
    let place : length (front ++ (line ++ end)) ≡ length front + length line + 1 = omega (arith, size, wide, parted.0) in
    All-append (StandsIn text) (placed_words (length front) number (strip_carriage_return line)) _
    (words_stand text front line (end ++ behind) number (whole ∙ ap (λ xs. front ++ xs) (are.2 ∙ append_assoc line end behind)) count are.3)
    (rw place at (lines_stand text (front ++ (line ++ end)) behind (number + 1) (next ∷ more) there
    (omega (arith, count, before, within, are.3, parted.1)) are.5))

-- the tokens of a text stand in it
pub placed_tokens-stand : (text : List ℕ) → All (StandsIn text) (placed_tokens text)
placed_tokens-stand text = lines_stand text [] text 1 (lines_of text) refl refl (are-lines text)
