-- The first word of a line ends at the first blank behind the blanks at the front.
use Rattle.std.proofs.Common.{◌≡◌, ◌<◌, ◌≤◌, ◌+◌, ◌∙◌, sym, tests, ℕ, Bool, true, false, List, [], ◌∷◌, length, take, drop, filter, refl, ap, arith, suc, length-drop, length-append, take-append-drop}
use Rattle.std.proofs.lemmas.List.Splits.{slice_split-cons_yes, slice_split-cons_no}
use Rattle.std.specs.List.{position_or_len, slice_split, onto_first, before_first}
use Rattle.col_token.specs.Tokens.{is_blank, is_token, words_in, without_blanks}

-- a blank at the front is part of no word
words_in-blank : (b : ℕ) (bs : List ℕ) → is_blank b ≡ true → words_in (b ∷ bs) ≡ words_in bs
words_in-blank b bs e = rw e refl

skipped_by : (b : ℕ) (bs : List ℕ) (blank : Bool) → is_blank b ≡ blank → words_in (without_blanks bs) ≡ words_in bs
    → words_in (without_blanks (b ∷ bs)) ≡ words_in (b ∷ bs)
skipped_by b bs true e h =
    let past : without_blanks (b ∷ bs) ≡ without_blanks bs = rw e refl in
    rw (past, words_in-blank b bs e) h
skipped_by b bs false e h =
    let same : without_blanks (b ∷ bs) ≡ b ∷ bs = rw e refl in
    ap words_in same

-- blanks at the front are part of no word
pub words_in-without_blanks : (line : List ℕ) → words_in (without_blanks line) ≡ words_in line
words_in-without_blanks [] = refl
words_in-without_blanks (b ∷ bs) = skipped_by b bs _ refl (words_in-without_blanks bs)

-- where the first blank stands, or the length
abbrev pub word_end : List ℕ → ℕ
word_end line = position_or_len is_blank line

word_end-blank : (b : ℕ) (bs : List ℕ) → is_blank b ≡ true → word_end (b ∷ bs) ≡ 0
word_end-blank b bs e = rw e refl

-- a byte that is no blank moves the first blank one further
pub word_end-more : (b : ℕ) (bs : List ℕ) → is_blank b ≡ false → word_end (b ∷ bs) ≡ suc (word_end bs)
word_end-more b bs e = rw e (omega arith)

-- the pieces of a line are its bytes up to the first blank, and further ones that are cut from what begins there
pub record Cut (line : List ℕ) : Type 0 where
  pub pieces : List (List ℕ)
  pub split : slice_split is_blank line ≡ take (word_end line) line ∷ pieces
  pub rest : slice_split is_blank (drop (word_end line) line) ≡ [] ∷ pieces

cut_by : (b : ℕ) (bs : List ℕ) (blank : Bool) → is_blank b ≡ blank → Cut bs → Cut (b ∷ bs)
cut_by b bs true e h = record {
  pieces = slice_split is_blank bs;
  split = rw (word_end-blank b bs e) (slice_split-cons_yes is_blank b bs e);
  rest = rw (word_end-blank b bs e) (slice_split-cons_yes is_blank b bs e);
}
cut_by b bs false e h = record {
  pieces = h.pieces;
  split = rw (word_end-more b bs e) (slice_split-cons_no is_blank b bs e ∙ ap (onto_first b) h.split);
  rest = rw (word_end-more b bs e) h.rest;
}

-- a line is cut at its first blank
pub cut : (line : List ℕ) → Cut line
cut [] = record { pieces = []; split = refl; rest = refl }
cut (b ∷ bs) = cut_by b bs _ refl (cut bs)

-- a piece with a byte is a token
pub is_token-cons : (b : ℕ) (bs : List ℕ) → is_token (b ∷ bs) ≡ true
is_token-cons b bs = search (arith, tests)

filter-token : (b : ℕ) (bs : List ℕ) (pieces : List (List ℕ)) → filter is_token ((b ∷ bs) ∷ pieces) ≡ (b ∷ bs) ∷ filter is_token pieces
filter-token b bs pieces = rw (is_token-cons b bs) refl

-- the word at the front of a line is what stands before its first blank
pub words_in-headed : (b : ℕ) (bs : List ℕ) → is_blank b ≡ false
    → words_in (b ∷ bs) ≡ before_first is_blank (b ∷ bs) ∷ words_in (drop (word_end (b ∷ bs)) (b ∷ bs))
words_in-headed b bs e =
    let c = cut (b ∷ bs) in
    let more = word_end-more b bs e in
    ap (filter is_token) c.split
    ∙ (rw more (filter-token b (take (word_end bs) bs) c.pieces))
    ∙ ap (λ words. take (word_end (b ∷ bs)) (b ∷ bs) ∷ words) (sym (ap (filter is_token) c.rest))

head_by : (b : ℕ) (bs : List ℕ) (x : ℕ) (xs : List ℕ) (blank : Bool) → is_blank b ≡ blank
    → (without_blanks bs ≡ x ∷ xs → is_blank x ≡ false) → without_blanks (b ∷ bs) ≡ x ∷ xs → is_blank x ≡ false
head_by b bs x xs true e h is =
    let past : without_blanks (b ∷ bs) ≡ without_blanks bs = rw e refl in
    h (sym past ∙ is)
head_by b bs x xs false e h is =
    let same : without_blanks (b ∷ bs) ≡ b ∷ bs = rw e refl in
    let heads : x ≡ b = cc in
    ap is_blank heads ∙ e

-- what follows the blanks at the front begins with no blank
pub without_blanks-head : (line : List ℕ) (x : ℕ) (xs : List ℕ) → without_blanks line ≡ x ∷ xs → is_blank x ≡ false
without_blanks-head [] x xs is = cc
without_blanks-head (b ∷ bs) x xs is = head_by b bs x xs _ refl (without_blanks-head bs x xs) is

-- the first word of a line, and the words that follow it
pub record FirstWord (line rest : List ℕ) : Type 0 where
  pub words : words_in line ≡ before_first is_blank rest ∷ words_in (drop (position_or_len is_blank rest) rest)
  pub filled : 0 < length (before_first is_blank rest)
  pub shorter : length (drop (position_or_len is_blank rest) rest) < length rest

-- a line of more than blanks has a first word, which begins behind the blanks at the front
pub first_word : (line rest : List ℕ) → without_blanks line ≡ rest → 0 < length rest → FirstWord line rest
first_word line [] is p = absurd (omega arith)
first_word line (x ∷ xs) is p =
    let e = without_blanks-head line x xs is in
    let more = word_end-more x xs e in
    record {
      words = sym (words_in-without_blanks line) ∙ ap words_in is ∙ words_in-headed x xs e;
      filled = rw more (omega arith);
      shorter = rw more (omega (arith, length-drop (word_end xs) xs));
    }

rest_by : (b : ℕ) (bs : List ℕ) (blank : Bool) → is_blank b ≡ blank → length (without_blanks bs) ≤ length bs
    → length (without_blanks (b ∷ bs)) ≤ length (b ∷ bs)
rest_by b bs true e h = rw e (omega (arith, h))
rest_by b bs false e h = rw e (omega arith)

-- what follows the blanks is no longer than the line
pub without_blanks-le : (line : List ℕ) → length (without_blanks line) ≤ length line
without_blanks-le [] = omega arith
without_blanks-le (b ∷ bs) = rest_by b bs _ refl (without_blanks-le bs)

-- a line of blanks alone has no word
pub no_words : (line rest : List ℕ) → without_blanks line ≡ rest → length rest ≡ 0 → words_in line ≡ []
no_words line [] is p = sym (words_in-without_blanks line) ∙ ap words_in is
no_words line (x ∷ xs) is p = absurd (omega arith)

-- a word and what follows it are no longer than the line
pub word_within : (line rest : List ℕ) → without_blanks line ≡ rest
    → length (before_first is_blank rest) + length (drop (position_or_len is_blank rest) rest) ≤ length line
word_within line rest is =
    let whole = ap length (take-append-drop (word_end rest) rest) in
    let parts = length-append (take (word_end rest) rest) (drop (word_end rest) rest) in
    omega (arith, whole, parts, without_blanks-le line, ap length is)
