-- Two columns by lists of slots are two columns row by row.
use Rattle.std.specs.Prelude.{◌≡◌, ◌≢◌, ◌<◌, ◌+◌, ℕ, zero, suc, ℤ, Bool, true, false, List, [], ◌∷◌, ◌++◌, length, take, drop, replicate, Option, Some, None, Ok, get_or, slice_index_or, nat_eq, if◌then◌else◌}
use Rattle.std.specs.List.{range_with_len}
use Rattle.std.proofs.Common.{refl, ap, sym, ◌∙◌, arith, inl, inr}
use Rattle.std.proofs.lemmas.Bool.{cases_eq}
use Rattle.std.proofs.lemmas.Bool.Decides.{nat_tests}
use Rattle.std.proofs.lemmas.List.{ext_get_or, get_or-replicate, length-map, length-replicate}
use Rattle.std.proofs.lemmas.List.FromFn.{length-range_with_len, get_or-map-range_with_len}
use Rattle.col_types.specs.declared.data_type.DataType.{DataType}
use Rattle.col_types.specs.declared.is_sorted.IsSorted.TheVariants.{Not}
use Rattle.col_model.specs.Value.{Value, Flat, Nested, Whole, Bytes, whole, on_slot, on_slots}
use Rattle.col_model.specs.Column.{Column}
use Rattle.col_model.specs.Broadcast.{broadcast_length, column_slots, operand_row}
use Rattle.col_model.specs.OperatorCalls.{operand_slot}
use Rattle.col_rule.specs.Columns.{paired_by, paired_column}
use Rattle.col_rule.specs.Rules.{mapped, paired}

paired-nil : (f : ℤ → ℤ → Option ℤ) (xs : List (Option Value)) → paired f xs [] ≡ []
paired-nil f [] = refl
paired-nil f (x ∷ xs) = refl

pub length-paired : (f : ℤ → ℤ → Option ℤ) (xs ys : List (Option Value)) → length xs ≡ length ys → length (paired f xs ys) ≡ length xs
length-paired f [] ys h = refl
length-paired f (x ∷ xs) [] h = absurd (omega arith)
length-paired f (x ∷ xs) (y ∷ ys) h = ap suc (length-paired f xs ys (omega arith))

-- the same under a name that code can cite
pub paired_long : (f : ℤ → ℤ → Option ℤ) (xs ys : List (Option Value)) → length xs ≡ length ys → length (paired f xs ys) ≡ length xs
paired_long = length-paired

-- two lists in two parts
pub paired-append : (f : ℤ → ℤ → Option ℤ) (xs more ys : List (Option Value)) → paired f (xs ++ more) ys ≡ paired f xs (take (length xs) ys) ++ paired f more (drop (length xs) ys)
paired-append f [] more ys = refl
paired-append f (x ∷ xs) more [] = sym (paired-nil f more)
paired-append f (x ∷ xs) more (y ∷ ys) = ap (λ (s : List (Option Value)). on_slots f x y ∷ s) (paired-append f xs more ys)

get_or-paired : (f : ℤ → ℤ → Option ℤ) (xs ys : List (Option Value)) (i : ℕ) → length xs ≡ length ys → i < length xs
    → get_or (paired f xs ys) i None ≡ on_slots f (get_or xs i None) (get_or ys i None)
get_or-paired f [] ys i e h = absurd (omega arith)
get_or-paired f (x ∷ xs) [] i e h = absurd (omega arith)
get_or-paired f (x ∷ xs) (y ∷ ys) zero e h = refl
get_or-paired f (x ∷ xs) (y ∷ ys) (suc i) e h = get_or-paired f xs ys i (omega arith) (omega arith)

equal : (a b : ℕ) → a ≡ b → nat_eq a b ≡ true
equal a b e = grind (arith, nat_tests)

unequal : (a b : ℕ) → a ≢ b → nat_eq a b ≡ false
unequal a b e = grind (arith, nat_tests)

-- a row of a list of all rows is that row, and of one row it is the first
own-row : (n i : ℕ) → i < n → operand_row n i ≡ i
own-row n i less = elim (cases_eq n 1) [
  | inl one ↦ let z : 0 ≡ i = omega arith in ap (λ (b : Bool). if b then 0 else i) (equal n 1 one) ∙ z
  | inr more ↦ ap (λ (b : Bool). if b then 0 else i) (unequal n 1 more)
]

first-row : (n i : ℕ) → n ≡ 1 → operand_row n i ≡ 0
first-row n i e = ap (λ (b : Bool). if b then 0 else i) (equal n 1 e)

get_or-column : (slot : ℕ → Option Value) (rows i : ℕ) → i < rows → get_or (column_slots slot rows) i None ≡ slot i
get_or-column slot rows i h = let at : 0 + i ≡ i = omega arith in get_or-map-range_with_len slot 0 rows i i None h at

length-column : (slot : ℕ → Option Value) (rows : ℕ) → length (column_slots slot rows) ≡ rows
length-column slot rows = length-map (range_with_len 0 rows) slot ∙ length-range_with_len 0 rows

-- a list is the column that has its slots
column-is : (xs : List (Option Value)) (slot : ℕ → Option Value) (rows : ℕ) → length xs ≡ rows
    → ((i : ℕ) → i < rows → slot i ≡ get_or xs i None) → column_slots slot rows ≡ xs
column-is xs slot rows long same =
    ext_get_or None (column_slots slot rows) xs (length-column slot rows ∙ sym long)
    (λ i less.
    let inside : i < rows = omega (arith, length-column slot rows) in
    get_or-column slot rows i inside ∙ same i inside)

-- the answer, from its number of rows and its slots
answer-is : (f : ℤ → ℤ → Option ℤ) (dtype : DataType) (left right : Column) (rows : ℕ) (slots : List (Option Value))
    → broadcast_length (length left.slots) (length right.slots) ≡ Some rows
    → column_slots (λ row. on_slots f (operand_slot left row) (operand_slot right row)) rows ≡ slots
    → paired_column f dtype left right ≡ Ok (record { name = left.name; dtype = dtype; slots = slots; flag = Not })
answer-is f dtype left right rows slots e is =
    ap (paired_by f dtype left right) e
    ∙ ap (λ (s : List (Option Value)). Ok (record { name = left.name; dtype = dtype; slots = s; flag = Not })) is

-- ---- two columns of one length

pub equal_rows : (f : ℤ → ℤ → Option ℤ) (dtype : DataType) (left right : Column) → length left.slots ≡ length right.slots
    → paired_column f dtype left right ≡ Ok (record { name = left.name; dtype = dtype; slots = paired f left.slots right.slots; flag = Not })
equal_rows f dtype left right same =
    let xs : List (Option Value) = left.slots in
    let ys : List (Option Value) = right.slots in
    answer-is f dtype left right (length xs) (paired f xs ys)
    (ap (λ (b : Bool). if b then Some (length xs) else if nat_eq (length xs) 1 then Some (length ys) else if nat_eq (length ys) 1 then Some (length xs) else None) (equal (length xs) (length ys) same))
    (column-is (paired f xs ys) (λ row. on_slots f (operand_slot left row) (operand_slot right row)) (length xs) (length-paired f xs ys same)
    (λ i less.
    ap (λ (k : ℕ). on_slots f (get_or xs k None) (operand_slot right i)) (own-row (length xs) i less)
    ∙ ap (λ (k : ℕ). on_slots f (get_or xs i None) (get_or ys k None)) (own-row (length ys) i (omega arith))
    ∙ sym (get_or-paired f xs ys i same less)))

-- ---- one row for all

-- the number of rows where one of the columns has one
left-rows : (b : ℕ) (a : ℕ) → a ≡ 1 → broadcast_length a b ≡ Some b
left-rows b a one = elim (cases_eq a b) [
  | inl same ↦ ap (λ (c : Bool). if c then Some a else if nat_eq a 1 then Some b else if nat_eq b 1 then Some a else None) (equal a b same) ∙ ap Some same
  | inr apart ↦
      ap (λ (c : Bool). if c then Some a else if nat_eq a 1 then Some b else if nat_eq b 1 then Some a else None) (unequal a b apart)
      ∙ ap (λ (c : Bool). if c then Some b else if nat_eq b 1 then Some a else None) (equal a 1 one)
]

right-rows : (a : ℕ) (b : ℕ) → b ≡ 1 → broadcast_length a b ≡ Some a
right-rows a b one = elim (cases_eq a b) [
  | inl same ↦ ap (λ (c : Bool). if c then Some a else if nat_eq a 1 then Some b else if nat_eq b 1 then Some a else None) (equal a b same)
  | inr apart ↦
      let more : a ≢ 1 = λ e. apart (e ∙ sym one) in
      ap (λ (c : Bool). if c then Some a else if nat_eq a 1 then Some b else if nat_eq b 1 then Some a else None) (unequal a b apart)
      ∙ ap (λ (c : Bool). if c then Some b else if nat_eq b 1 then Some a else None) (unequal a 1 more)
      ∙ ap (λ (c : Bool). if c then Some a else None) (equal b 1 one)
]

right-given : (f : ℤ → ℤ → Option ℤ) (y : ℤ) (slot : Option Value) → on_slots f slot (Some (whole y)) ≡ on_slot (λ x. f x y) slot
right-given f y (Some (Flat (Whole x))) = refl
right-given f y (Some (Flat (Bytes b))) = refl
right-given f y (Some (Nested leaves)) = refl
right-given f y None = refl

right-null : (f : ℤ → ℤ → Option ℤ) (slot : Option Value) → on_slots f slot None ≡ None
right-null f (Some (Flat (Whole x))) = refl
right-null f (Some (Flat (Bytes b))) = refl
right-null f (Some (Nested leaves)) = refl
right-null f None = refl

get_or-mapped : (f : ℤ → Option ℤ) (xs : List (Option Value)) (i : ℕ) → get_or (mapped f xs) i None ≡ on_slot f (get_or xs i None)
get_or-mapped f [] i = refl
get_or-mapped f (x ∷ xs) zero = refl
get_or-mapped f (x ∷ xs) (suc i) = get_or-mapped f xs i

pub left_word : (f : ℤ → ℤ → Option ℤ) (dtype : DataType) (left right : Column) (x : ℤ) → length left.slots ≡ 1 → Some (whole x) ≡ slice_index_or left.slots 0 None
    → paired_column f dtype left right ≡ Ok (record { name = left.name; dtype = dtype; slots = mapped (f x) right.slots; flag = Not })
left_word f dtype left right x one is =
    let ys : List (Option Value) = right.slots in
    answer-is f dtype left right (length ys) (mapped (f x) ys) (left-rows (length ys) (length left.slots) one)
    (column-is (mapped (f x) ys) (λ row. on_slots f (operand_slot left row) (operand_slot right row)) (length ys) (length-map ys (on_slot (f x)))
    (λ i less.
    ap (λ (k : ℕ). on_slots f (get_or left.slots k None) (operand_slot right i)) (first-row (length left.slots) i one)
    ∙ ap (λ (s : Option Value). on_slots f s (operand_slot right i)) (sym is)
    ∙ ap (λ (k : ℕ). on_slot (f x) (get_or ys k None)) (own-row (length ys) i less)
    ∙ sym (get_or-mapped (f x) ys i)))

pub left_null : (f : ℤ → ℤ → Option ℤ) (dtype : DataType) (left right : Column) → length left.slots ≡ 1 → None ≡ slice_index_or left.slots 0 None
    → paired_column f dtype left right ≡ Ok (record { name = left.name; dtype = dtype; slots = replicate (length right.slots) None; flag = Not })
left_null f dtype left right one is =
    let rows : ℕ = length right.slots in
    answer-is f dtype left right rows (replicate rows None) (left-rows rows (length left.slots) one)
    (column-is (replicate rows None) (λ row. on_slots f (operand_slot left row) (operand_slot right row)) rows (length-replicate rows None)
    (λ i less.
    ap (λ (k : ℕ). on_slots f (get_or left.slots k None) (operand_slot right i)) (first-row (length left.slots) i one)
    ∙ ap (λ (s : Option Value). on_slots f s (operand_slot right i)) (sym is)
    ∙ sym (get_or-replicate rows i None None less)))

pub right_word : (f : ℤ → ℤ → Option ℤ) (dtype : DataType) (left right : Column) (y : ℤ) → length right.slots ≡ 1 → Some (whole y) ≡ slice_index_or right.slots 0 None
    → paired_column f dtype left right ≡ Ok (record { name = left.name; dtype = dtype; slots = mapped (λ x. f x y) left.slots; flag = Not })
right_word f dtype left right y one is =
    let xs : List (Option Value) = left.slots in
    answer-is f dtype left right (length xs) (mapped (λ x. f x y) xs) (right-rows (length xs) (length right.slots) one)
    (column-is (mapped (λ x. f x y) xs) (λ row. on_slots f (operand_slot left row) (operand_slot right row)) (length xs) (length-map xs (on_slot (λ x. f x y)))
    (λ i less.
    ap (λ (k : ℕ). on_slots f (operand_slot left i) (get_or right.slots k None)) (first-row (length right.slots) i one)
    ∙ ap (on_slots f (operand_slot left i)) (sym is)
    ∙ right-given f y (operand_slot left i)
    ∙ ap (λ (k : ℕ). on_slot (λ x. f x y) (get_or xs k None)) (own-row (length xs) i less)
    ∙ sym (get_or-mapped (λ x. f x y) xs i)))

pub right_null : (f : ℤ → ℤ → Option ℤ) (dtype : DataType) (left right : Column) → length right.slots ≡ 1 → None ≡ slice_index_or right.slots 0 None
    → paired_column f dtype left right ≡ Ok (record { name = left.name; dtype = dtype; slots = replicate (length left.slots) None; flag = Not })
right_null f dtype left right one is =
    let rows : ℕ = length left.slots in
    answer-is f dtype left right rows (replicate rows None) (right-rows rows (length right.slots) one)
    (column-is (replicate rows None) (λ row. on_slots f (operand_slot left row) (operand_slot right row)) rows (length-replicate rows None)
    (λ i less.
    ap (λ (k : ℕ). on_slots f (operand_slot left i) (get_or right.slots k None)) (first-row (length right.slots) i one)
    ∙ ap (on_slots f (operand_slot left i)) (sym is)
    ∙ right-null f (operand_slot left i)
    ∙ sym (get_or-replicate rows i None None less)))
