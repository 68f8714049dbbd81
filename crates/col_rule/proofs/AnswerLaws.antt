-- Answers that have equal names and slots.
use Rattle.std.specs.Prelude.{◌≡◌, ℕ, List, Option, Result, Ok}
use Rattle.std.proofs.Common.{ap, sym, ◌∙◌}
use Rattle.col_types.specs.declared.data_type.DataType.{DataType}
use Rattle.col_types.specs.declared.is_sorted.IsSorted.TheVariants.{Not}
use Rattle.col_types.specs.declared.error.PolarsError.{PolarsError}
use Rattle.col_model.specs.Value.{Value}
use Rattle.col_model.specs.Column.{Column}

-- the column of a name and of slots
abbrev named : DataType → List ℕ → List (Option Value) → Column
named dtype name slots = record { name = name; dtype = dtype; slots = slots; flag = Not }

-- its answer
abbrev pub answered : Column → Result Column PolarsError
answered column = Ok column

pub answer-same : (dtype : DataType) (n m : List ℕ) (s t : List (Option Value)) (column : Column) → n ≡ m → s ≡ t
    → column ≡ record { name = m; dtype = dtype; slots = t; flag = Not }
    → answered (record { name = n; dtype = dtype; slots = s; flag = Not }) ≡ answered column
answer-same dtype n m s t column e f g =
    ap (λ (k : List ℕ). answered (named dtype k s)) e
    ∙ ap (λ (k : List (Option Value)). answered (named dtype m k)) f
    ∙ ap answered (sym g)
