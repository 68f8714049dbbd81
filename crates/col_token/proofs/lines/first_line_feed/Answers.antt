use Rattle.std.proofs.Common.{◌≡◌, ◌<◌, ℕ, Bool, true, false, List, length, Option, Some, None, refl, arith}
use Rattle.std.specs.Prelude.{nat_lt}
use Rattle.std.specs.List.{position, position_or_len}
use Rattle.std.proofs.lemmas.Bool.{lt-ltb, ltb-true, false_from_ne_true}
use Rattle.std.proofs.lemmas.List.Sums.{position_or_len_is}
use Rattle.memchr.specs.Find.{IsFirstByte}
use Rattle.col_token.proofs.lines.first_line_feed.Goals as goal

found_by : (p : ℕ → Bool) (text : List ℕ) (k : ℕ) → position_or_len p text ≡ k → k < length text
    → Some k ≡ position p text
found_by p text k e h = let within = lt-ltb k (length text) h in rw (e, within) refl

absent_by : (p : ℕ → Bool) (text : List ℕ) (b : Bool) → position_or_len p text ≡ length text → nat_lt (length text) (length text) ≡ b
    → None ≡ position p text
absent_by p text true e h = absurd (omega (arith, ltb-true (length text) (length text) h))
absent_by p text false e h = rw (e, h) refl

place_of : (p : ℕ → Bool) (text : List ℕ) (r : Option ℕ) → IsFirstByte p text r → r ≡ position p text
place_of p text (Some k) h =
    let high = h.0.high in
    let at = position_or_len_is p text k 0 (omega (arith, high))
    (λ m below. false_from_ne_true _ (h.0.before m (omega arith) below)) (λ lt. h.1) in
    found_by p text k at high
place_of p text None h =
    absent_by p text _ (position_or_len_is p text (length text) 0 (omega arith)
    (λ m below. false_from_ne_true _ (h m (omega arith) below)) (λ lt. absurd (omega arith))) refl

pub returns : goal.returns
returns c = record { place = place_of _ c.args.text.now c.memchr.result c.memchr.ensures }
