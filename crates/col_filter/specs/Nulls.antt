-- Tests of slots for null.
use Rattle.std.specs.Prelude.{Bool, List, map, Option, Some, is_none, is_some}
use Rattle.col_types.specs.declared.data_type.DataType.{Boolean}
use Rattle.col_types.specs.declared.is_sorted.IsSorted.TheVariants.{Not}
use Rattle.col_model.specs.Value.{Value, whole}
use Rattle.col_model.specs.Column.{Column}
use Rattle.col_boolean.specs.Bits.{truth}

-- a truth value for each slot: whether it passes a test
abbrev pub tested_slots : (Option Value → Bool) → List (Option Value) → List (Option Value)
tested_slots test slots = map (λ slot. Some (whole (truth (test slot)))) slots

-- whether each slot is null
abbrev pub is_null_slots : List (Option Value) → List (Option Value)
is_null_slots slots = tested_slots is_none slots

-- whether each slot is valid
abbrev pub is_not_null_slots : List (Option Value) → List (Option Value)
is_not_null_slots slots = tested_slots is_some slots

-- the column of truth values under the same name
abbrev pub truths_of : Column → List (Option Value) → Column
truths_of column slots =
    record { name = column.name; dtype = Boolean; slots = slots; flag = Not }
