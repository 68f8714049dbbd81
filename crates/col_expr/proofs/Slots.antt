-- Lists of a slot for each row.
use Rattle.std.proofs.Common.{◌≡◌, ℕ, ◌<◌, List, length, map, get_or, Option, Some, None, refl, ◌∙◌, arith}
use Rattle.std.proofs.lemmas.Bool.Decides.{nat_tests}
use Rattle.std.specs.List.{range_with_len}
use Rattle.std.proofs.lemmas.List.FromFn.{fill_by_all, length-map-range_with_len, get_or-map-range_with_len}
use Rattle.std.proofs.lemmas.Simd.{map-map}
use Rattle.col_model.specs.Value.{Value}
use Rattle.col_model.specs.Broadcast.{column_slots, broadcast_length, operand_row}

pub length-column_slots : (f : ℕ → Option Value) (n : ℕ) → length (column_slots f n) ≡ n
length-column_slots f n = length-map-range_with_len f 0 n

pub get_or-column_slots : (f : ℕ → Option Value) (n row : ℕ) → row < n →
    get_or (column_slots f n) row None ≡ f row
get_or-column_slots f n row h = get_or-map-range_with_len f 0 n row row None h (omega arith)

-- what agrees in each row gives one list
pub column_slots-same : (f g : ℕ → Option Value) (n : ℕ) →
    ((row : ℕ) → row < n → f row ≡ g row) → column_slots f n ≡ column_slots g n
column_slots-same f g n same =
    fill_by_all g (column_slots f n) n None (length-column_slots f n)
    (λ row h. get_or-column_slots f n row h ∙ same row h)

-- a list is that of its own slots
pub column_slots-own : (slots : List (Option Value)) →
    slots ≡ column_slots (λ row. get_or slots row None) (length slots)
column_slots-own slots =
    fill_by_all (λ row. get_or slots row None) slots (length slots) None refl (λ row h. refl)

pub map-column_slots : (g : Option Value → Option Value) (f : ℕ → Option Value) (n : ℕ) →
    map g (column_slots f n) ≡ column_slots (λ row. g (f row)) n
map-column_slots g f n = map-map g f (range_with_len 0 n)

-- an operand has each row that an answer's row stands for
pub operand_row-left : (m n rows row : ℕ) → broadcast_length m n ≡ Some rows → row < rows →
    operand_row m row < m
operand_row-left m n rows row fit h = grind (arith, nat_tests)

pub operand_row-right : (m n rows row : ℕ) → broadcast_length m n ≡ Some rows → row < rows →
    operand_row n row < n
operand_row-right m n rows row fit h = grind (arith, nat_tests)
