-- Laws of sums, row by row.
use Rattle.std.specs.Prelude.{◌≡◌, ◌≢◌, ◌+◌, ◌<◌, ◌^◌, ◌∷◌, ◌++◌, [], ℕ, pos, Bool, true, false, List, Option, Some, None, length, nat_eq, if◌then◌else◌}
use Rattle.std.specs.Int.{w32}
use Rattle.std.specs.List.{range_with_len}
use Rattle.std.proofs.Common.{refl, ap, sym, ◌∙◌, arith, inl, inr}
use Rattle.std.proofs.lemmas.Bool.{cases_eq}
use Rattle.std.proofs.lemmas.Bool.Decides.{nat_tests}
use Rattle.std.proofs.lemmas.List.{append-nil, length-map}
use Rattle.std.proofs.lemmas.List.FromFn.{length-range_with_len, map-range_with_len_more}
use Rattle.col_kernel.specs.WordLaws.{read_unsigned}
use Rattle.col_model.specs.Arithmetic.{Unsigned, wrapped_value}
use Rattle.col_model.specs.Value.{Value, on_slots}
use Rattle.col_model.specs.Broadcast.{broadcast_length, operand_row}
use Rattle.col_chunk.specs.Chunks.{joined}
use Rattle.col_boolean.specs.Sums.{slot_for, sum_slots, sum_value}

pub wraps_word : (n : ℕ) → n < 2 ^ 32 → wrapped_value (Unsigned w32) (pos n) ≡ pos n
wraps_word n small = read_unsigned w32 n small

pub ruleset readings = (wraps_word)

pub length-sum_slots : (left right : List (Option Value)) (rows : ℕ) → length (sum_slots left right rows) ≡ rows
length-sum_slots left right rows = length-map (range_with_len 0 rows) (λ row. on_slots sum_value (slot_for left row) (slot_for right row)) ∙ length-range_with_len 0 rows

-- one row more
pub sum_slots_more : (left right : List (Option Value)) (row : ℕ)
    → sum_slots left right (row + 1) ≡ sum_slots left right row ++ on_slots sum_value (slot_for left row) (slot_for right row) ∷ []
sum_slots_more left right row =
    let at : 0 + row ≡ row = omega arith in
    map-range_with_len_more (λ row. on_slots sum_value (slot_for left row) (slot_for right row)) 0 row row at

-- the number of rows is that of an operand, unless it has one row
abbrev read : Option ℕ → ℕ → ℕ
read None d = d
read (Some x) d = x

left-rows : (a b rows : ℕ) → a ≢ 1 → broadcast_length a b ≡ Some rows → a ≡ rows
left-rows a b rows more e =
    sym (ap (λ (one : Bool). read (if nat_eq a b then Some a else if one then Some b else if nat_eq b 1 then Some a else None) a) no ∙ cases (nat_eq a b) (nat_eq b 1))
    ∙ ap (λ (o : Option ℕ). read o a) e
  where
    no : nat_eq a 1 ≡ false
    no = grind (arith, nat_tests)

    cases : (same other : Bool) → read (if same then Some a else if other then Some a else None) a ≡ a
    cases true other = refl
    cases false true = refl
    cases false false = refl

right-rows : (a b rows : ℕ) → b ≢ 1 → broadcast_length a b ≡ Some rows → b ≡ rows
right-rows a b rows more e =
    sym (ap (λ (other : Bool). read (if nat_eq a b then Some a else if nat_eq a 1 then Some b else if other then Some a else None) b) no ∙ cases (nat_eq a b) (nat_eq a 1) same)
    ∙ ap (λ (o : Option ℕ). read o b) e
  where
    no : nat_eq b 1 ≡ false
    no = grind (arith, nat_tests)

    same : nat_eq a b ≡ true → a ≡ b
    same h = grind (arith, nat_tests)

    cases : (equal one : Bool) → (equal ≡ true → a ≡ b) → read (if equal then Some a else if one then Some b else None) b ≡ b
    cases true one is = is refl
    cases false true is = refl
    cases false false is = refl

own-row : (a row : ℕ) → a ≢ 1 → operand_row a row ≡ row
own-row a row more = ap (λ (b : Bool). if b then 0 else row) no
  where
    no : nat_eq a 1 ≡ false
    no = grind (arith, nat_tests)

first-row : (a row : ℕ) → a ≡ 1 → operand_row a row ≡ 0
first-row a row one = ap (λ (b : Bool). if b then 0 else row) yes
  where
    yes : nat_eq a 1 ≡ true
    yes = grind (arith, nat_tests)

-- the row of an operand is one that it has
inside : (a rows row : ℕ) → (a ≢ 1 → a ≡ rows) → row < rows → operand_row a row < a
inside a rows row long less = elim (cases_eq a 1) [
  | inl one ↦ omega (arith, one, first-row a row one)
  | inr more ↦ omega (arith, long more, less, own-row a row more)
]

pub left_inside : (a b rows row : ℕ) → broadcast_length a b ≡ Some rows → row < rows → operand_row a row < a
left_inside a b rows row e less = inside a rows row (λ more. left-rows a b rows more e) less

pub right_inside : (a b rows row : ℕ) → broadcast_length a b ≡ Some rows → row < rows → operand_row b row < b
right_inside a b rows row e less = inside b rows row (λ more. right-rows a b rows more e) less

-- one chunk alone
pub one_chunk : (chunk : List (Option Value)) → joined (λ c. c) (chunk ∷ []) ≡ chunk
one_chunk chunk = append-nil chunk

pub ruleset sum_laws = (sum_slots_more, length-sum_slots, one_chunk)
