-- What the calls of a column answer, want of memory aside.
use Rattle.std.specs.Prelude.{ℕ, ◌+◌, ◌^◌, ℤ, Bool, true, false, ◌&&◌, ◌||◌, not, List, [], ◌∷◌}
use Rattle.std.specs.Prelude.{length, map, take, nat_lt, Option, Some, None, is_some, is_none}
use Rattle.std.specs.Prelude.{slice_index_or, Result, Ok, Err, if◌then◌else◌}
use Rattle.std.specs.List.{list_any, position_from}
use Rattle.col_types.specs.PolarsError.{seen_by}
use Rattle.col_types.specs.DataType.{kind_of, is_built, is_bad_target}
use Rattle.col_types.specs.declared.data_type.DataType.{DataType}
use Rattle.col_types.specs.declared.cast_options.CastOptions.{CastOptions}
use Rattle.col_types.specs.declared.cast_options.CastOptions.TheVariants.{Strict, NonStrict}
use Rattle.col_types.specs.declared.is_sorted.IsSorted.{IsSorted}
use Rattle.col_types.specs.declared.is_sorted.IsSorted.TheVariants.{Not}
use Rattle.col_types.specs.declared.error.PolarsError.{PolarsError}
use Rattle.col_types.specs.declared.error.PolarsError.TheVariants as errors
use Rattle.col_model.specs.Value.{Value, integer_slot}
use Rattle.col_model.specs.Column.{Column, is_slot_of}
use Rattle.col_model.specs.Chunked.{Chunked, in_one_chunk}
use Rattle.col_model.specs.Formula.{slot_by}
use Rattle.col_model.specs.CastTable.{CastRule, cast_rule, resolved_target}

-- the value, or the refusal where there is one
abbrev pub unless_refused : {T E : Type 0} → Option E → T → Result T E
unless_refused None x = Ok x
unless_refused (Some e) x = Err e

-- ---- a column from its slots, in one chunk

-- whether an integer or null may not stand in a column of the type
abbrev pub is_unfit : DataType → Option ℤ → Bool
is_unfit dtype slot = not (is_slot_of dtype (integer_slot slot))

-- the first row whose slot isn't one of the type; rows past 2^32 are not looked at
abbrev pub first_unfit : DataType → List (Option ℤ) → Option ℕ
first_unfit dtype slots = position_from (is_unfit dtype) 0 (take (2 ^ 32) slots)

-- a value outside the type comes before too many rows
abbrev pub slots_refusal : Option ℕ → ℕ → Option PolarsError
slots_refusal (Some row) rows = Some (errors.Fit row)
slots_refusal None rows = if nat_lt rows (2 ^ 32) then None else Some (errors.TooLong rows)

-- the column of these slots, with no claim on their order, or why there is none
abbrev pub column_from : List ℕ → DataType → List (Option ℤ) → Result Column PolarsError
column_from name dtype slots =
    unless_refused (slots_refusal (first_unfit dtype slots) (length slots))
    (record { name = name; dtype = dtype; slots = map integer_slot slots; flag = Not })

-- the same, with its chunk
abbrev pub chunked_from : List ℕ → DataType → List (Option ℤ) → Result Chunked PolarsError
chunked_from name dtype slots = seen_by in_one_chunk (column_from name dtype slots)

-- ---- a slot by its index

-- the slot at an index, or that the index is past the rows
abbrev pub slot_of : Column → ℕ → Result (Option Value) PolarsError
slot_of column index =
    if nat_lt index (length column.slots) then Ok (slice_index_or column.slots index None)
    else Err (errors.OutOfBounds index (length column.slots))

-- ---- casts

-- a slot under a rule of the cast table, null where there is no rule
abbrev pub cast_slot : Option CastRule → Option Value → Option Value
cast_slot None slot = None
cast_slot (Some rule) slot = slot_by rule.formula slot

-- the first row, from this one on, whose valid slot becomes null
abbrev pub first_lost : (Option Value → Option Value) → ℕ → List (Option Value) → Option ℕ
first_lost f row [] = None
first_lost f row (slot ∷ slots) =
    if is_some slot && is_none (f slot) then Some row else first_lost f (row + 1) slots

-- the refusal of a strict cast
abbrev pub strict_refusal : CastOptions → Option ℕ → Option PolarsError
strict_refusal Strict (Some row) = Some (errors.Strict row)
strict_refusal _ lost = None

-- why a cast to a target that isn't bad is refused: a pair outside the table with a valid slot,
-- then a strict cast that loses one
abbrev pub pair_refusal : DataType → DataType → CastOptions → Option CastRule →
    List (Option Value) → Option PolarsError
pair_refusal from target options None slots =
    if list_any is_some slots then Some (errors.CastPair (kind_of from) (kind_of target)) else None
pair_refusal from target options (Some rule) slots =
    strict_refusal options (first_lost (cast_slot (Some rule)) 0 slots)

-- why a cast is refused: a bad target comes first
abbrev pub cast_refusal : DataType → DataType → CastOptions → Option CastRule →
    List (Option Value) → Option PolarsError
cast_refusal from target options rule slots =
    if is_bad_target target then Some (errors.BadType (kind_of target))
    else pair_refusal from target options rule slots

-- whether a cast can be asked for the target: columns of the type exist, or it is refused
abbrev pub is_built_target : DataType → Bool
is_built_target target = is_built target || is_bad_target target

-- whether a rule that doesn't wrap keeps the order of the slots: it never decreases, and makes
-- null of no valid slot
abbrev pub keeps_order : Option CastRule → List (Option Value) → Bool
keeps_order None slots = false
keeps_order (Some rule) slots = rule.monotone && is_none (first_lost (slot_by rule.formula) 0 slots)

-- the sorted flag where the order is kept, and no claim elsewhere
abbrev pub kept_flag : Bool → IsSorted → IsSorted
kept_flag true flag = flag
kept_flag false flag = Not

-- the sorted flag of a cast: kept where the cast neither makes null of a valid slot nor wraps one,
-- which is where the rule that doesn't wrap loses none
abbrev pub cast_flag : DataType → DataType → List (Option Value) → IsSorted → IsSorted
cast_flag from target slots flag =
    kept_flag (keeps_order (cast_rule from target NonStrict) slots) flag

-- the column that a cast gives to a target that leaves nothing open, where it isn't refused
abbrev pub cast_column : Column → DataType → CastOptions → Column
cast_column column target options = record column {
  dtype = target;
  slots = map (cast_slot (cast_rule column.dtype target options)) column.slots;
  flag = cast_flag column.dtype target column.slots column.flag;
}

-- the column in another type, or why it is refused; what the target leaves open is taken from the
-- column
abbrev pub cast_of : Column → DataType → CastOptions → Result Column PolarsError
cast_of column target options =
    let settled = resolved_target column.dtype target in
    unless_refused
    (cast_refusal column.dtype target options (cast_rule column.dtype settled options) column.slots)
    (cast_column column settled options)
