-- The first line of a text ends at its first line feed.
use Rattle.std.proofs.Common.{◌≡◌, ◌<◌, ◌+◌, ◌-◌, ℕ, Bool, true, false, List, [], ◌∷◌, length, take, drop, refl, ap, arith, suc, Some, None}
use Rattle.std.specs.List.{position, position_or_len, onto_first}
use Rattle.std.proofs.lemmas.List.{take_rest, drop_all, take_all}
use Rattle.col_token.specs.Lines.{is_line_feed, lines_of}
use Rattle.col_token.proofs.PositionLemmas.{position-found, position-absent}

abbrev line_end : List ℕ → ℕ
line_end text = position_or_len is_line_feed text

abbrev FirstLine : List ℕ → Type 0
FirstLine text = lines_of text ≡ take (line_end text) text ∷ lines_of (drop (line_end text + 1) text)

first_of_one : (b : ℕ) (ends : Bool) → is_line_feed b ≡ ends → FirstLine (b ∷ [])
first_of_one b true e = rw e refl
first_of_one b false e = rw e refl

first_of_more : (b c : ℕ) (cs : List ℕ) (ends : Bool) → is_line_feed b ≡ ends → FirstLine (c ∷ cs) → FirstLine (b ∷ c ∷ cs)
first_of_more b c cs true e h = rw e refl
first_of_more b c cs false e h =
    let n = line_end (c ∷ cs) in
    let one : 1 + n ≡ suc n = omega arith in
    let two : (1 + n) + 1 ≡ suc (n + 1) = omega arith in
    rw (e, two, one) (ap (onto_first b) h)

-- a text is its first line, and the lines behind the line feed
pub lines_of-first : (b : ℕ) (bs : List ℕ) → FirstLine (b ∷ bs)
lines_of-first b [] = first_of_one b _ refl
lines_of-first b (c ∷ cs) = first_of_more b c cs _ refl (lines_of-first c cs)

-- the same where a search has found the line feed
pub lines_of-found : (text : List ℕ) (at : ℕ) → position is_line_feed text ≡ Some at
    → lines_of text ≡ take at text ∷ lines_of (take (length text - (at + 1)) (drop (at + 1) text))
lines_of-found [] at h = cc
lines_of-found (b ∷ bs) at h =
    rw take_rest (rw (position-found is_line_feed (b ∷ bs) at h).0 at (lines_of-first b bs))

-- the same where a search has found none: the text is one line
pub lines_of-absent : (text : List ℕ) → 0 < length text → position is_line_feed text ≡ None → lines_of text ≡ text ∷ []
lines_of-absent [] p h = absurd (omega arith)
lines_of-absent (b ∷ bs) p h =
    let end = position-absent is_line_feed (b ∷ bs) h in
    rw (take_all (line_end (b ∷ bs)) (b ∷ bs) (omega (arith, end)), drop_all (line_end (b ∷ bs) + 1) (b ∷ bs) (omega (arith, end))) at (lines_of-first b bs)
