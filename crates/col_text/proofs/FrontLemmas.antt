-- An integer at the front of a line is its first token.
use Rattle.std.proofs.Common.{◌≡◌, ◌<◌, ◌≤◌, ◌∙◌, ℕ, ℤ, Bool, true, false, List, [], ◌∷◌, length, take, drop, Some, refl, sym, ap, arith, zero, suc, nat_eq, length-drop}
use Rattle.std.specs.Int.{IsInRange}
use Rattle.std.specs.Str.Parse.{AllDigits, digits_value, starts_with_minus}
use Rattle.std.proofs.lemmas.Str.Parse.{digit_from_value}
use Rattle.std.proofs.lemmas.Bool.Decides.{nat_tests}
use Rattle.std.proofs.lemmas.List.{length-take}
use Rattle.col_token.specs.Tokens.{is_blank, words_in, without_blanks}
use Rattle.col_token.proofs.WordLemmas.{word_end, word_end-more, words_in-headed, words_in-without_blanks, without_blanks-head, without_blanks-le}
use Rattle.col_text.specs.Numbers.{behind_sign, tick_fit, tick_of, with_sign}
use Rattle.col_text.specs.Slots.{IsFrontTick, ends_token}
use Rattle.col_text.proofs.TickLemmas.{some_natural, tick_of-some}

no_blank : (b : ℕ) → IsInRange 48 57 b → is_blank b ≡ false
no_blank b h = grind (arith, nat_tests)

-- digits before the end of a token reach up to there
digits_end : (ds : List ℕ) (count : ℕ) → count ≤ length ds → AllDigits 10 (take count ds)
    → ends_token (drop count ds) ≡ true → word_end ds ≡ count
digits_end [] zero h all e = refl
digits_end [] (suc count) h all e = absurd (omega arith)
digits_end (d ∷ ds) zero h all e = rw e refl
digits_end (d ∷ ds) (suc count) h all e =
    word_end-more d ds (no_blank d (digit_from_value d all.0)) ∙ ap suc (digits_end ds count (omega arith) all.1 e)

-- what the reader knows of a line: its first token is a sign or none, and digits
pub record Front (line ds : List ℕ) (minus : Bool) (count n : ℕ) (x : ℤ) : Type 0 where
  pub minus_is : minus ≡ starts_with_minus (without_blanks line)
  pub behind : ds ≡ behind_sign (without_blanks line)
  pub few : count ≤ 19
  pub some : 0 < count
  pub within : count ≤ length ds
  pub digits : AllDigits 10 (take count ds)
  pub value : n ≡ digits_value 10 (take count ds)
  pub end : ends_token (drop count ds) ≡ true
  pub fits : Some x ≡ tick_fit (with_sign minus n)

token_value : (token ds : List ℕ) (minus : Bool) (count n : ℕ) (x : ℤ) → minus ≡ starts_with_minus token
    → take count ds ≡ behind_sign token → count ≤ 19 → 0 < count → count ≤ length ds → AllDigits 10 (take count ds)
    → n ≡ digits_value 10 (take count ds) → Some x ≡ tick_fit (with_sign minus n) → Some x ≡ tick_of token
token_value token ds minus count n x m behind few some within digits value fits =
    let size = length-take count ds in
    fits ∙ tick_of-some token (take count ds) minus n m behind
    (ap Some value ∙ some_natural (take count ds) digits (omega (arith, size)))
    (omega (arith, size))

-- the line's first token is a byte and what stands behind it up to the end
headed : (line bs : List ℕ) (b count : ℕ) → without_blanks line ≡ b ∷ bs → word_end (b ∷ bs) ≡ suc count
    → words_in line ≡ (b ∷ take count bs) ∷ words_in (drop count bs)
headed line bs b count is end =
    sym (words_in-without_blanks line) ∙ ap words_in is
    ∙ words_in-headed b bs (without_blanks-head line b bs is)
    ∙ ap (λ at. take at (b ∷ bs) ∷ words_in (drop at (b ∷ bs))) end

shorter_by : (line bs : List ℕ) (b count : ℕ) → without_blanks line ≡ b ∷ bs → length (drop count bs) < length line
shorter_by line bs b count is =
    omega (arith, length-drop count bs, ap length is, without_blanks-le line)

behind_minus : (b : ℕ) (bs : List ℕ) → nat_eq b 45 ≡ true → behind_sign (b ∷ bs) ≡ bs
behind_minus b bs e = rw e refl

behind_plus : (b : ℕ) (bs : List ℕ) → nat_eq b 45 ≡ false → nat_eq b 43 ≡ true → behind_sign (b ∷ bs) ≡ bs
behind_plus b bs e f = rw (e, f) refl

behind_none : (b : ℕ) (bs : List ℕ) → nat_eq b 45 ≡ false → nat_eq b 43 ≡ false → behind_sign (b ∷ bs) ≡ b ∷ bs
behind_none b bs e f = rw (e, f) refl

signed_front : (line bs ds : List ℕ) (minus : Bool) (b count n : ℕ) (x : ℤ) → without_blanks line ≡ b ∷ bs
    → ((xs : List ℕ) → behind_sign (b ∷ xs) ≡ xs) → Front line ds minus count n x
    → IsFrontTick line x (drop count ds)
signed_front line bs ds minus b count n x is behind f =
    let same : ds ≡ bs = f.behind ∙ ap behind_sign is ∙ behind bs in
    let blank = without_blanks-head line b bs is in
    let end : word_end (b ∷ bs) ≡ suc count =
    word_end-more b bs blank ∙ ap suc (ap word_end (sym same) ∙ digits_end ds count f.within f.digits f.end) in
    record {
      token = b ∷ take count ds;
      words = rw same (headed line bs b count is end);
      value = token_value (b ∷ take count ds) ds minus count n x (f.minus_is ∙ ap starts_with_minus is)
          (sym (behind (take count ds))) f.few f.some f.within f.digits f.value f.fits;
      shorter = rw same (shorter_by line bs b count is);
    }

plain_front : (line bs ds : List ℕ) (minus : Bool) (b count n : ℕ) (x : ℤ) → without_blanks line ≡ b ∷ bs
    → ((xs : List ℕ) → behind_sign (b ∷ xs) ≡ b ∷ xs) → Front line ds minus (suc count) n x
    → IsFrontTick line x (drop (suc count) ds)
plain_front line bs ds minus b count n x is behind f =
    let same : ds ≡ b ∷ bs = f.behind ∙ ap behind_sign is ∙ behind bs in
    let end : word_end (b ∷ bs) ≡ suc count =
    ap word_end (sym same) ∙ digits_end ds (suc count) f.within f.digits f.end in
    let token : take (suc count) ds ≡ b ∷ take count bs = ap (take (suc count)) same in
    record {
      token = b ∷ take count bs;
      words = rw same (headed line bs b count is end);
      value = token_value (b ∷ take count bs) ds minus (suc count) n x (f.minus_is ∙ ap starts_with_minus is)
          (token ∙ sym (behind (take count bs))) f.few f.some f.within f.digits f.value f.fits;
      shorter = rw same (shorter_by line bs b count is);
    }

front_some : (line bs ds : List ℕ) (minus : Bool) (b count n : ℕ) (x : ℤ) → without_blanks line ≡ b ∷ bs
    → ((xs : List ℕ) → behind_sign (b ∷ xs) ≡ b ∷ xs) → Front line ds minus count n x
    → IsFrontTick line x (drop count ds)
front_some line bs ds minus b zero n x is behind f = absurd (omega (arith, f.some))
front_some line bs ds minus b (suc count) n x is behind f = plain_front line bs ds minus b count n x is behind f

front_by : (line bs ds : List ℕ) (minus : Bool) (b count n : ℕ) (x : ℤ) (dash plus : Bool) → without_blanks line ≡ b ∷ bs
    → nat_eq b 45 ≡ dash → nat_eq b 43 ≡ plus → Front line ds minus count n x
    → IsFrontTick line x (drop count ds)
front_by line bs ds minus b count n x true plus is e p f =
    signed_front line bs ds minus b count n x is (λ xs. behind_minus b xs e) f
front_by line bs ds minus b count n x false true is e p f =
    signed_front line bs ds minus b count n x is (λ xs. behind_plus b xs e p) f
front_by line bs ds minus b count n x false false is e p f =
    front_some line bs ds minus b count n x is (λ xs. behind_none b xs e p) f

front_at : (line text ds : List ℕ) (minus : Bool) (count n : ℕ) (x : ℤ) → without_blanks line ≡ text
    → Front line ds minus count n x → IsFrontTick line x (drop count ds)
front_at line [] ds minus count n x is f =
    let none : length ds ≡ 0 = ap length (f.behind ∙ ap behind_sign is) in
    absurd (omega (arith, none, f.within, f.some))
front_at line (b ∷ bs) ds minus count n x is f = front_by line bs ds minus b count n x _ _ is refl refl f

-- what is read at the front of a line is its first token
pub front_tick : (line ds : List ℕ) (minus : Bool) (count n : ℕ) (x : ℤ) → Front line ds minus count n x
    → IsFrontTick line x (drop count ds)
front_tick line ds minus count n x f = front_at line _ ds minus count n x refl f
