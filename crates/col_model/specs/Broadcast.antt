-- How the rows of two operands meet, and how a shift moves rows.
use Rattle.std.specs.Prelude.{ℕ, ℤ, pos, negsuc, ◌-ℤ◌, List, map, Option, Some, None, nat_eq}
use Rattle.std.specs.Prelude.{nat_lt, if◌then◌else◌}
use Rattle.std.specs.List.{range_with_len}
use Rattle.col_model.specs.Value.{Value}

-- the list of a slot for each row
abbrev pub column_slots : (ℕ → Option Value) → ℕ → List (Option Value)
column_slots slot rows = map slot (range_with_len 0 rows)

-- the common number of rows, or the other's where one is 1
abbrev pub broadcast_length : ℕ → ℕ → Option ℕ
broadcast_length left right =
    if nat_eq left right then Some left
    else if nat_eq left 1 then Some right
    else if nat_eq right 1 then Some left else None

-- the row of an operand that stands in an answer's row: one row stands for all
abbrev pub operand_row : ℕ → ℕ → ℕ
operand_row rows row = if nat_eq rows 1 then 0 else row

-- an integer as a row, if there is such a row
abbrev pub row_at : ℕ → ℤ → Option ℕ
row_at rows (pos row) = if nat_lt row rows then Some row else None
row_at rows (negsuc n) = None

-- the row that a shift by so many periods moves to this row, if there is one
abbrev pub row_before : ℕ → ℤ → ℕ → Option ℕ
row_before rows periods row = row_at rows (pos row -ℤ periods)
