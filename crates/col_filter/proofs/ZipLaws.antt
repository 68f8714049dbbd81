-- Laws of rows of two columns, as a mask picks between them.
use Rattle.std.specs.Prelude.{◌≡◌, ◌≢◌, ◌+◌, ◌-◌, ◌≤◌, ◌<◌, ℕ, zero, suc, Bool, true, false, List, [], ◌∷◌, ◌++◌, Option, Some, None, Result, Ok, Err, length, drop, take, get_or, is_some, nat_eq, if◌then◌else◌}
use Rattle.std.specs.List.{range_with_len}
use Rattle.std.proofs.Common.{refl, ap, sym, ◌∙◌, arith, inl, inr}
use Rattle.std.proofs.lemmas.Bool.{cases_eq, false≢true}
use Rattle.std.proofs.lemmas.Bool.Decides.{nat_tests}
use Rattle.std.proofs.lemmas.List.{append-nil, append_assoc, get_or-drop, length-drop, length-map, take_more}
use Rattle.std.proofs.lemmas.List.FromFn.{length-range_with_len, map-range_with_len_more}
use Rattle.col_types.specs.declared.error.PolarsError.{PolarsError}
use Rattle.col_model.specs.Value.{Value}
use Rattle.col_model.specs.Broadcast.{broadcast_length, operand_row}
use Rattle.col_boolean.specs.Sums.{slot_for}
use Rattle.col_filter.specs.Filters.{is_true_slot}
use Rattle.col_filter.specs.Zips.{rows_or, rows_with, slots_for, met_rows, zipped_slot, zipped_slots}

pub length-zipped_slots : (mask first second : List (Option Value)) (rows : ℕ) → length (zipped_slots mask first second rows) ≡ rows
length-zipped_slots mask first second rows = length-map (range_with_len 0 rows) (zipped_slot mask first second) ∙ length-range_with_len 0 rows

-- one row more
pub zipped_slots_more : (mask first second : List (Option Value)) (row : ℕ)
    → zipped_slots mask first second (row + 1) ≡ zipped_slots mask first second row ++ zipped_slot mask first second row ∷ []
zipped_slots_more mask first second row =
    let at : 0 + row ≡ row = omega arith in
    map-range_with_len_more (zipped_slot mask first second) 0 row row at

-- the number of rows, where one is answered
abbrev answered : Result ℕ PolarsError → Option ℕ
answered (Ok rows) = Some rows
answered (Err refusal) = None

was-some : (a b rows : ℕ) (o : Option ℕ) → rows_or a b o ≡ Ok rows → o ≡ Some rows
was-some a b rows None e = ap answered e
was-some a b rows (Some n) e = ap answered e

-- what the first column and the mask give
abbrev given : Option ℕ → ℕ
given None = 0
given (Some n) = n

given-some : (first mask second rows : ℕ) (o : Option ℕ) → rows_with second (rows_or first mask o) ≡ Ok rows → o ≡ Some (given o)
given-some first mask second rows None e = absurd (false≢true (ap is_some (ap answered e)))
given-some first mask second rows (Some n) e = refl

given-fits : (first mask second rows : ℕ) (o : Option ℕ) → rows_with second (rows_or first mask o) ≡ Ok rows → broadcast_length (given o) second ≡ Some rows
given-fits first mask second rows None e = absurd (false≢true (ap is_some (ap answered e)))
given-fits first mask second rows (Some n) e = was-some n second rows (broadcast_length n second) e

-- the number of rows is that of an operand, unless it has one row
abbrev read : Option ℕ → ℕ → ℕ
read None d = d
read (Some x) d = x

left-rows : (a b rows : ℕ) → a ≢ 1 → broadcast_length a b ≡ Some rows → a ≡ rows
left-rows a b rows more e =
    sym (ap (λ (one : Bool). read (if nat_eq a b then Some a else if one then Some b else if nat_eq b 1 then Some a else None) a) no ∙ cases (nat_eq a b) (nat_eq b 1))
    ∙ ap (λ (o : Option ℕ). read o a) e
  where
    no : nat_eq a 1 ≡ false
    no = grind (arith, nat_tests)

    cases : (same other : Bool) → read (if same then Some a else if other then Some a else None) a ≡ a
    cases true other = refl
    cases false true = refl
    cases false false = refl

right-rows : (a b rows : ℕ) → b ≢ 1 → broadcast_length a b ≡ Some rows → b ≡ rows
right-rows a b rows more e =
    sym (ap (λ (other : Bool). read (if nat_eq a b then Some a else if nat_eq a 1 then Some b else if other then Some a else None) b) no ∙ cases (nat_eq a b) (nat_eq a 1) same)
    ∙ ap (λ (o : Option ℕ). read o b) e
  where
    no : nat_eq b 1 ≡ false
    no = grind (arith, nat_tests)

    same : nat_eq a b ≡ true → a ≡ b
    same h = grind (arith, nat_tests)

    cases : (equal one : Bool) → (equal ≡ true → a ≡ b) → read (if equal then Some a else if one then Some b else None) b ≡ b
    cases true one is = is refl
    cases false true is = refl
    cases false false is = refl

own-row : (a row : ℕ) → a ≢ 1 → operand_row a row ≡ row
own-row a row more = ap (λ (b : Bool). if b then 0 else row) no
  where
    no : nat_eq a 1 ≡ false
    no = grind (arith, nat_tests)

first-row : (a row : ℕ) → a ≡ 1 → operand_row a row ≡ 0
first-row a row one = ap (λ (b : Bool). if b then 0 else row) yes
  where
    yes : nat_eq a 1 ≡ true
    yes = grind (arith, nat_tests)

-- the row of an operand is one that it has
inside : (a rows row : ℕ) → (a ≢ 1 → a ≡ rows) → row < rows → operand_row a row < a
inside a rows row long less = elim (cases_eq a 1) [
  | inl one ↦ omega (arith, one, first-row a row one)
  | inr more ↦ omega (arith, long more, less, own-row a row more)
]

module _ (mask first second rows : ℕ) (fits : met_rows mask first second ≡ Ok rows) where
  some : broadcast_length first mask ≡ Some (given (broadcast_length first mask))
  some = given-some first mask second rows (broadcast_length first mask) fits

  with_second : broadcast_length (given (broadcast_length first mask)) second ≡ Some rows
  with_second = given-fits first mask second rows (broadcast_length first mask) fits

  first-long : first ≢ 1 → first ≡ rows
  first-long more =
      let e = left-rows first mask (given (broadcast_length first mask)) more some in
      e ∙ left-rows (given (broadcast_length first mask)) second rows (λ q. more (e ∙ q)) with_second

  mask-long : mask ≢ 1 → mask ≡ rows
  mask-long more =
      let e = right-rows first mask (given (broadcast_length first mask)) more some in
      e ∙ left-rows (given (broadcast_length first mask)) second rows (λ q. more (e ∙ q)) with_second

  second-long : second ≢ 1 → second ≡ rows
  second-long more = right-rows (given (broadcast_length first mask)) second rows more with_second

  pub mask-row-inside : (row : ℕ) → row < rows → operand_row mask row < mask
  mask-row-inside row less = inside mask rows row mask-long less

-- a column has so many rows, unless it has one
pub side-long : (mask first second : List (Option Value)) (rows : ℕ) (b : Bool) → met_rows (length mask) (length first) (length second) ≡ Ok rows
    → length (if b then first else second) ≢ 1 → length (if b then first else second) ≡ rows
side-long mask first second rows true fits more = first-long (length mask) (length first) (length second) rows fits more
side-long mask first second rows false fits more = second-long (length mask) (length first) (length second) rows fits more

-- ---- runs

-- one row more
slots_for-more : (slots : List (Option Value)) (from n : ℕ) → slots_for slots from (n + 1) ≡ slots_for slots from n ++ slot_for slots (from + n) ∷ []
slots_for-more slots from n = map-range_with_len_more (slot_for slots) from n (from + n) refl

-- a run of one row that stands for all
pub step-one : (slots done new old : List (Option Value)) (from n : ℕ) → length slots ≡ 1 → new ≡ done ++ get_or slots 0 None ∷ []
    → done ≡ old ++ slots_for slots from n → new ≡ old ++ slots_for slots from (n + 1)
step-one slots done new old from n one written so_far =
    written
    ∙ ap (λ (z : List (Option Value)). z ++ get_or slots 0 None ∷ []) so_far
    ∙ append_assoc old (slots_for slots from n) (get_or slots 0 None ∷ [])
    ∙ ap (λ (k : ℕ). old ++ (slots_for slots from n ++ get_or slots k None ∷ [])) (sym (first-row (length slots) (from + n) one))
    ∙ ap (λ (z : List (Option Value)). old ++ z) (sym (slots_for-more slots from n))

-- a part is a run of rows
pub part-slots_for : (slots : List (Option Value)) (from n : ℕ) → length slots ≢ 1 → from + n ≤ length slots → take n (drop from slots) ≡ slots_for slots from n
part-slots_for slots from zero more room = refl
part-slots_for slots from (suc n) more room =
    let at : suc n ≡ n + 1 = omega arith in
    ap (λ (k : ℕ). take k (drop from slots)) at
    ∙ take_more (drop from slots) n None (omega (arith, room, length-drop from slots))
    ∙ ap (λ (z : List (Option Value)). z ++ get_or (drop from slots) n None ∷ []) (part-slots_for slots from n more (omega (arith, room)))
    ∙ ap (λ (s : Option Value). slots_for slots from n ++ s ∷ []) (get_or-drop from slots n None)
    ∙ ap (λ (k : ℕ). slots_for slots from n ++ get_or slots k None ∷ []) (sym (own-row (length slots) (from + n) more))
    ∙ sym (slots_for-more slots from n)
    ∙ ap (slots_for slots from) (sym at)

-- the slot of a row from the column that the mask picks
picked : (mask first second : List (Option Value)) (row : ℕ) (b : Bool) → b ≡ is_true_slot (slot_for mask row)
    → slot_for (if b then first else second) row ≡ zipped_slot mask first second row
picked mask first second row b e = either b ∙ ap (λ (c : Bool). if c then slot_for first row else slot_for second row) e
  where
    either : (c : Bool) → slot_for (if c then first else second) row ≡ (if c then slot_for first row else slot_for second row)
    either true = refl
    either false = refl

module _ (mask first second new : List (Option Value)) where
  -- a row more in the run
  run-more : (from row : ℕ) (b : Bool) → from ≤ row → b ≡ is_true_slot (slot_for mask row)
      → new ++ slots_for (if b then first else second) from (row - from) ≡ zipped_slots mask first second row
      → new ++ slots_for (if b then first else second) from (row + 1 - from) ≡ zipped_slots mask first second (row + 1)
  run-more from row b order holds all =
      let size : row + 1 - from ≡ (row - from) + 1 = omega arith in
      let at : from + (row - from) ≡ row = omega arith in
      ap (λ (n : ℕ). new ++ slots_for (if b then first else second) from n) size
      ∙ ap (λ (z : List (Option Value)). new ++ z) (slots_for-more (if b then first else second) from (row - from))
      ∙ sym (append_assoc new (slots_for (if b then first else second) from (row - from)) (slot_for (if b then first else second) (from + (row - from)) ∷ []))
      ∙ ap (λ (z : List (Option Value)). z ++ slot_for (if b then first else second) (from + (row - from)) ∷ []) all
      ∙ ap (λ (k : ℕ). zipped_slots mask first second row ++ slot_for (if b then first else second) k ∷ []) at
      ∙ ap (λ (s : Option Value). zipped_slots mask first second row ++ s ∷ []) (picked mask first second row b holds)
      ∙ sym (zipped_slots_more mask first second row)

  -- a loop's step in a run
  pub step-goes : (done : List (Option Value)) (from next row : ℕ) (b c : Bool) → from ≤ row → b ≡ is_true_slot (slot_for mask row) → new ≡ done → next ≡ from → c ≡ b
      → done ++ slots_for (if b then first else second) from (row - from) ≡ zipped_slots mask first second row
      → new ++ slots_for (if c then first else second) next (row + 1 - next) ≡ zipped_slots mask first second (row + 1)
  step-goes done from next row b c order holds written at same all =
      ap (λ (d : Bool). new ++ slots_for (if d then first else second) next (row + 1 - next)) same
      ∙ ap (λ (n : ℕ). new ++ slots_for (if b then first else second) n (row + 1 - n)) at
      ∙ run-more from row b order holds (ap (λ (z : List (Option Value)). z ++ slots_for (if b then first else second) from (row - from)) written ∙ all)

  -- a loop's step that writes the run and begins another one
  pub step-turns : (done : List (Option Value)) (from next row : ℕ) (last b c : Bool) → b ≡ is_true_slot (slot_for mask row)
      → new ≡ done ++ slots_for (if last then first else second) from (row - from) → next ≡ row → c ≡ b
      → done ++ slots_for (if last then first else second) from (row - from) ≡ zipped_slots mask first second row
      → new ++ slots_for (if c then first else second) next (row + 1 - next) ≡ zipped_slots mask first second (row + 1)
  step-turns done from next row last b c holds written at same all =
      let none : row - row ≡ 0 = omega arith in
      ap (λ (d : Bool). new ++ slots_for (if d then first else second) next (row + 1 - next)) same
      ∙ ap (λ (n : ℕ). new ++ slots_for (if b then first else second) n (row + 1 - n)) at
      ∙ run-more row row b (omega arith) holds
      (ap (λ (n : ℕ). new ++ slots_for (if b then first else second) row n) none ∙ append-nil new ∙ written ∙ all)

pub zipped_short : (mask first second : List (Option Value)) (rows n : ℕ) → rows < n → length (zipped_slots mask first second rows) < n
zipped_short mask first second rows n h = omega (arith, length-zipped_slots mask first second rows, h)

pub ruleset zip_laws = (zipped_slots_more, zipped_short)
