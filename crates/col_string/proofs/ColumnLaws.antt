-- The laws by which columns close that are made of values, of items or of other columns.
use Rattle.std.specs.Prelude.{◌≡◌, ◌+◌, ◌<◌, ◌≢◌, ◌&&◌, ◌∷◌, ◌++◌, [], ℕ, Bool, true, false, List, length, Option, Some, None, nat_eq, if◌then◌else◌}
use Rattle.std.specs.List.{list_all, range_with_len}
use Rattle.std.specs.Option.{option_map}
use Rattle.std.proofs.Common.{refl, ap, sym, ◌∙◌, arith, inl, inr}
use Rattle.std.proofs.lemmas.Bool.{cases_eq}
use Rattle.std.proofs.lemmas.Bool.Decides.{nat_tests}
use Rattle.std.proofs.lemmas.List.{append-nil, length-map, map-append}
use Rattle.std.proofs.lemmas.List.FromFn.{length-range_with_len, map-range_with_len_more}
use Rattle.col_model.specs.Value.{Value, Flat, Nested, Bytes, Whole}
use Rattle.col_model.specs.Broadcast.{broadcast_length, operand_row}
use Rattle.col_chunk.specs.Chunks.{joined}
use Rattle.col_string.specs.Runs.{passes}
use Rattle.col_string.specs.Texts.{bytes_slots, bytes_value, extended_slots, is_bytes_value, is_text_value, joined_bytes, joined_slots, optional_slots, slot_for}

pub length-bytes_slots : {T : Type 0} (bytes : T → List ℕ) (items : List T) → length (bytes_slots bytes items) ≡ length items
length-bytes_slots bytes items = length-map items (λ item. Some (bytes_value (bytes item)))

-- one item more
pub optional_slots_more : {T : Type 0} (bytes : T → List ℕ) (items : List (Option T)) (item : Option T)
    → optional_slots bytes (items ++ item ∷ []) ≡ optional_slots bytes items ++ option_map (λ item. bytes_value (bytes item)) item ∷ []
optional_slots_more bytes items item = map-append (option_map (λ item. bytes_value (bytes item))) items (item ∷ [])

pub ruleset plain_laws = (length-bytes_slots)

pub ruleset option_laws = (optional_slots_more)

pub length-joined_slots : (left right : List (Option Value)) (rows : ℕ) → length (joined_slots left right rows) ≡ rows
length-joined_slots left right rows = length-map (range_with_len 0 rows) (λ row. joined_bytes (slot_for left row) (slot_for right row)) ∙ length-range_with_len 0 rows

-- one row more
pub joined_slots_more : (left right : List (Option Value)) (row : ℕ)
    → joined_slots left right (row + 1) ≡ joined_slots left right row ++ joined_bytes (slot_for left row) (slot_for right row) ∷ []
joined_slots_more left right row =
    let at : 0 + row ≡ row = omega arith in
    map-range_with_len_more (λ row. joined_bytes (slot_for left row) (slot_for right row)) 0 row row at

pub length-extended_slots : (bytes : List ℕ) (slots : List (Option Value)) → length (extended_slots bytes slots) ≡ length slots
length-extended_slots bytes slots = length-map slots (λ slot. joined_bytes slot (Some (bytes_value bytes)))

-- the number of rows is that of an operand, unless it has one row
abbrev read : Option ℕ → ℕ → ℕ
read None d = d
read (Some x) d = x

left-rows : (a b rows : ℕ) → a ≢ 1 → broadcast_length a b ≡ Some rows → a ≡ rows
left-rows a b rows more e =
    sym (ap (λ (one : Bool). read (if nat_eq a b then Some a else if one then Some b else if nat_eq b 1 then Some a else None) a) no ∙ cases (nat_eq a b) (nat_eq b 1))
    ∙ ap (λ (o : Option ℕ). read o a) e
  where
    no : nat_eq a 1 ≡ false
    no = grind (arith, nat_tests)

    cases : (same other : Bool) → read (if same then Some a else if other then Some a else None) a ≡ a
    cases true other = refl
    cases false true = refl
    cases false false = refl

right-rows : (a b rows : ℕ) → b ≢ 1 → broadcast_length a b ≡ Some rows → b ≡ rows
right-rows a b rows more e =
    sym (ap (λ (other : Bool). read (if nat_eq a b then Some a else if nat_eq a 1 then Some b else if other then Some a else None) b) no ∙ cases (nat_eq a b) (nat_eq a 1) same)
    ∙ ap (λ (o : Option ℕ). read o b) e
  where
    no : nat_eq b 1 ≡ false
    no = grind (arith, nat_tests)

    same : nat_eq a b ≡ true → a ≡ b
    same h = grind (arith, nat_tests)

    cases : (equal one : Bool) → (equal ≡ true → a ≡ b) → read (if equal then Some a else if one then Some b else None) b ≡ b
    cases true one is = is refl
    cases false true is = refl
    cases false false is = refl

own-row : (a row : ℕ) → a ≢ 1 → operand_row a row ≡ row
own-row a row more = ap (λ (b : Bool). if b then 0 else row) no
  where
    no : nat_eq a 1 ≡ false
    no = grind (arith, nat_tests)

first-row : (a row : ℕ) → a ≡ 1 → operand_row a row ≡ 0
first-row a row one = ap (λ (b : Bool). if b then 0 else row) yes
  where
    yes : nat_eq a 1 ≡ true
    yes = grind (arith, nat_tests)

-- the row of an operand is one that it has
inside : (a rows row : ℕ) → (a ≢ 1 → a ≡ rows) → row < rows → operand_row a row < a
inside a rows row long less = elim (cases_eq a 1) [
  | inl one ↦ omega (arith, one, first-row a row one)
  | inr more ↦ omega (arith, long more, less, own-row a row more)
]

pub left_inside : (a b rows row : ℕ) → broadcast_length a b ≡ Some rows → row < rows → operand_row a row < a
left_inside a b rows row e less = inside a rows row (λ more. left-rows a b rows more e) less

pub right_inside : (a b rows row : ℕ) → broadcast_length a b ≡ Some rows → row < rows → operand_row b row < b
right_inside a b rows row e less = inside b rows row (λ more. right-rows a b rows more e) less

-- one chunk alone
pub one_chunk : (chunk : List (Option Value)) → joined (λ c. c) (chunk ∷ []) ≡ chunk
one_chunk chunk = append-nil chunk

pub ruleset joined_laws = (joined_slots_more, length-joined_slots, length-extended_slots, one_chunk)

-- the slots of one chunk and of those behind it
pub list_all-first : {X : Type 0} (p : X → Bool) (xs ys : List X) → list_all p (xs ++ ys) ≡ true → list_all p xs ≡ true
list_all-first p [] ys h = refl
list_all-first p (x ∷ xs) ys h = both (p x) (list_all p (xs ++ ys)) (list_all p xs) h (list_all-first p xs ys)
  where
    both : (a b c : Bool) → (a && b) ≡ true → (b ≡ true → c ≡ true) → (a && c) ≡ true
    both true b c h f = f h
    both false b c h f = h

pub list_all-second : {X : Type 0} (p : X → Bool) (xs ys : List X) → list_all p (xs ++ ys) ≡ true → list_all p ys ≡ true
list_all-second p [] ys h = h
list_all-second p (x ∷ xs) ys h = list_all-second p xs ys (right (p x) (list_all p (xs ++ ys)) h)
  where
    right : (a b : Bool) → (a && b) ≡ true → b ≡ true
    right true b h = h
    right false true h = refl
    right false false h = h

-- texts are bytes
pub texts_are_bytes : (slots : List (Option Value)) → list_all (passes is_text_value) slots ≡ true → list_all (passes is_bytes_value) slots ≡ true
texts_are_bytes [] h = refl
texts_are_bytes (slot ∷ slots) h = both (passes is_text_value slot) (list_all (passes is_text_value) slots) (passes is_bytes_value slot) (list_all (passes is_bytes_value) slots) h (one slot) (texts_are_bytes slots)
  where
    both : (a b c d : Bool) → (a && b) ≡ true → (a ≡ true → c ≡ true) → (b ≡ true → d ≡ true) → (c && d) ≡ true
    both true b c d h f k = ap (λ (z : Bool). z && d) (f refl) ∙ k h
    both false true c d h f k = ap (λ (z : Bool). z && d) (f h) ∙ k refl
    both false false c d h f k = ap (λ (z : Bool). z && d) (f h) ∙ k h

    one : (slot : Option Value) → passes is_text_value slot ≡ true → passes is_bytes_value slot ≡ true
    one None h = refl
    one (Some (Flat (Bytes b))) h = refl
    one (Some (Flat (Whole x))) h = h
    one (Some (Nested leaves)) h = h
