-- Two columns of one length under two rules of the operator table.
use Rattle.std.specs.Prelude.{◌≡◌, ◌<◌, ◌+◌, ◌≤◌, ℕ, zero, suc, Bool, true, false, List, [], ◌∷◌, length, map, Option, Some, None, slice_index_or, nat_eq, Result, Ok}
use Rattle.std.specs.List.{list_all, range_with_len}
use Rattle.std.proofs.Common.{refl, ap, ◌∙◌, cond, arith, zero-add}
use Rattle.std.proofs.lemmas.Bool.{and_parts, eq-eqb, eqb-true}
use Rattle.std.proofs.lemmas.List.FromFn.{length-map-range_with_len, get_or-map-range_with_len}
use Rattle.col_types.specs.declared.data_type.DataType.{DataType}
use Rattle.col_types.specs.declared.operator.BinOp.{BinOp}
use Rattle.col_model.specs.Value.{Value}
use Rattle.col_model.specs.Broadcast.{broadcast_length, operand_row, column_slots}
use Rattle.col_model.specs.Column.{Column, is_slot_of}
use Rattle.col_model.specs.OperatorCalls.{binary_of, binary_by, binary_column, slot_in, operand_slot}
use Rattle.col_model.specs.Formula.{slots_by}
use Rattle.col_model.specs.OperatorTable.{OperatorRule, operator_rule}
use Rattle.col_types.specs.declared.error.PolarsError.{PolarsError}

-- a slot of a valid column is one of its type, also past the rows
pub slot_in-valid : (dtype : DataType) (slots : List (Option Value)) (row : ℕ) → list_all (is_slot_of dtype) slots ≡ true
    → is_slot_of dtype (slice_index_or slots row None) ≡ true
slot_in-valid dtype [] zero h = refl
slot_in-valid dtype [] (suc row) h = refl
slot_in-valid dtype (slot ∷ slots) zero h = (and_parts _ _ h).0
slot_in-valid dtype (slot ∷ slots) (suc row) h = slot_in-valid dtype slots row (and_parts _ _ h).1

-- of one length, each row of an operand is its own
own_row : (n row : ℕ) → row < n → operand_row n row ≡ row
own_row n row h = go (nat_eq n 1) refl
  where
    go : (one : Bool) → nat_eq n 1 ≡ one → cond one 0 row ≡ row
    go true e = let is : n ≡ 1 = eqb-true n 1 e in omega arith
    go false e = refl

operand-slot : (column : Column) (row : ℕ) → row < length column.slots → operand_slot column row ≡ slot_in column row
operand-slot column row h = ap (λ (r : ℕ). slice_index_or column.slots r None) (own_row (length column.slots) row h)

-- slots that are equal in each row are equal
same_slots : (f g : ℕ → Option Value) (first n : ℕ) → ((row : ℕ) → first ≤ row → row < first + n → f row ≡ g row)
    → map f (range_with_len first n) ≡ map g (range_with_len first n)
same_slots f g first zero h = refl
same_slots f g first (suc n) h =
    ap (λ (s : Option Value). s ∷ map f (range_with_len (first + 1) n)) (h first (omega arith) (omega arith))
    ∙ ap (λ (l : List (Option Value)). g first ∷ l) (same_slots f g (first + 1) n (λ row low high. h row (omega arith) (omega arith)))

pub equal_slots : (f g : ℕ → Option Value) (n : ℕ) → ((row : ℕ) → row < n → f row ≡ g row) → column_slots f n ≡ column_slots g n
equal_slots f g n h = same_slots f g 0 n (λ row low high. h row (omega arith))

-- the column that two columns of one length give
pub equal_binary : (op : BinOp) (left right : Column) (rule : OperatorRule) → length left.slots ≡ length right.slots
    → operator_rule op left.dtype right.dtype ≡ Ok rule
    → binary_of op left right ≡ Ok (binary_column left right (length left.slots) rule)
equal_binary op left right rule e f =
    let rows : broadcast_length (length left.slots) (length right.slots) ≡ Some (length left.slots) =
    ap (λ b. cond b (Some (length left.slots)) (cond (nat_eq (length left.slots) 1) (Some (length right.slots)) (cond (nat_eq (length right.slots) 1) (Some (length left.slots)) None))) (eq-eqb (length left.slots) (length right.slots) e) in
    ap (λ (n : Option ℕ). binary_by left right n (operator_rule op left.dtype right.dtype)) rows
    ∙ ap (λ (r : Result OperatorRule PolarsError). binary_by left right (Some (length left.slots)) r) f

-- it has as many rows, and in each the two slots under the rule
pub binary-length : (left right : Column) (n : ℕ) (rule : OperatorRule) → length (binary_column left right n rule).slots ≡ n
binary-length left right n rule = length-map-range_with_len (λ row. slots_by rule.formula (operand_slot left row) (operand_slot right row)) 0 n

pub binary-slot : (left right : Column) (n : ℕ) (rule : OperatorRule) (row : ℕ) → length left.slots ≡ n → length right.slots ≡ n → row < n
    → slot_in (binary_column left right n rule) row ≡ slots_by rule.formula (slot_in left row) (slot_in right row)
binary-slot left right n rule row e f h =
    get_or-map-range_with_len (λ row. slots_by rule.formula (operand_slot left row) (operand_slot right row)) 0 n row row None h (zero-add row)
    ∙ ap (λ (s : Option Value). slots_by rule.formula s (operand_slot right row)) (operand-slot left row (omega arith))
    ∙ ap (λ (s : Option Value). slots_by rule.formula (slot_in left row) s) (operand-slot right row (omega arith))

-- and so the slots are
pub binary-slots : (left right : Column) (n : ℕ) (rule : OperatorRule) → length left.slots ≡ n → length right.slots ≡ n
    → (binary_column left right n rule).slots ≡ column_slots (λ row. slots_by rule.formula (slot_in left row) (slot_in right row)) n
binary-slots left right n rule e f =
    equal_slots _ _ n (λ row h. ap (λ (s : Option Value). slots_by rule.formula s (operand_slot right row)) (operand-slot left row (omega arith))
    ∙ ap (λ (s : Option Value). slots_by rule.formula (slot_in left row) s) (operand-slot right row (omega arith)))
