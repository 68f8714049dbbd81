-- The rows at which a mask is true.
use Rattle.std.specs.Prelude.{◌==◌, ◌||◌, ℕ, pos, Bool, false, List, [], ◌∷◌, length, replicate}
use Rattle.std.specs.Prelude.{slice_index_or, nat_eq, Option, Some, None, Result, Ok, Err}
use Rattle.std.specs.Prelude.{if◌then◌else◌}
use Rattle.col_types.specs.declared.is_sorted.IsSorted.TheVariants.{Not}
use Rattle.col_types.specs.declared.error.PolarsError.{PolarsError}
use Rattle.col_types.specs.declared.error.PolarsError.TheVariants as errors
use Rattle.col_model.specs.Value.{Value, Flat, Whole}
use Rattle.col_model.specs.Column.{Column}

-- whether a slot of a mask is true; a null is not
abbrev pub is_true_slot : Option Value → Bool
is_true_slot (Some (Flat (Whole (pos n)))) = n == 1
is_true_slot _ = false

-- the slots for so many rows: one alone stands for all
abbrev pub spread_slots : ℕ → List (Option Value) → List (Option Value)
spread_slots rows slots =
    if nat_eq (length slots) 1 then replicate rows (slice_index_or slots 0 None) else slots

-- the slots at whose places the mask is true
abbrev pub kept_slots : List (Option Value) → List (Option Value) → List (Option Value)
kept_slots [] slots = []
kept_slots (mask ∷ masks) [] = []
kept_slots (mask ∷ masks) (slot ∷ slots) =
    if is_true_slot mask then slot ∷ kept_slots masks slots else kept_slots masks slots

-- the slots of the rows at which the mask is true
abbrev pub filtered_slots : List (Option Value) → List (Option Value) → List (Option Value)
filtered_slots mask slots = kept_slots (spread_slots (length slots) mask) slots

-- the rows at which the mask is true, or that it has another length and isn't of one row
abbrev pub filtered : List (Option Value) → Column → Result Column PolarsError
filtered mask column =
    if nat_eq (length mask) (length column.slots) || nat_eq (length mask) 1
    then Ok (record column { slots = filtered_slots mask column.slots; flag = Not })
    else Err (errors.Lengths (length column.slots) (length mask))
