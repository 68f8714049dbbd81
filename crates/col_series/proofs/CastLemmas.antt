-- The answers of a cast, over words.
use Rattle.std.proofs.Common.{◌≡◌, ◌<◌, ◌≤◌, ◌^◌, ◌+◌, ℕ, zero, suc, Bool, true, false, List, [], ◌∷◌, map, length, replicate, Option, Some, None, Ok, Err, Result, refl, sym, ap, subst, is_some, is_none, if◌then◌else◌, arith, IfSome}
use Rattle.std.specs.List.{list_all, list_any}
use Rattle.std.specs.Prelude.{fold, cond, nat_lt}
use Rattle.std.proofs.lemmas.Bool.Decides.{nat_tests}
use Rattle.col_types.specs.DataType.{kind_of, is_bad_target}
use Rattle.col_types.specs.declared.data_type.DataType.{DataType, Time}
use Rattle.col_types.specs.PolarsError.{Gives, GivesBy}
use Rattle.col_types.specs.declared.cast_options.CastOptions.{CastOptions}
use Rattle.col_types.specs.declared.cast_options.CastOptions.TheVariants.{Strict, NonStrict, Overflowing}
use Rattle.col_types.specs.declared.is_sorted.IsSorted.{IsSorted}
use Rattle.col_types.specs.declared.is_sorted.IsSorted.TheVariants.{Not}
use Rattle.col_types.specs.declared.error.PolarsError.{PolarsError}
use Rattle.col_types.specs.declared.error.PolarsError.TheVariants as errors
use Rattle.col_model.specs.Chunked.{Chunked, column_of, in_one_chunk}
use Rattle.col_model.specs.ChunkCalls.{null_column, null_count}
use Rattle.col_model.specs.Value.{Value}
use Rattle.col_model.specs.Formula.{Formula, X, slot_by, value_of}
use Rattle.col_model.specs.Column.{Column, IsValidColumn, is_built_type, is_slot_of}
use Rattle.col_model.specs.CastTable.{CastRule, cast_rule}
use Rattle.col_model.specs.ColumnCalls.{cast_slot, first_lost, strict_refusal, unless_refused, is_built_target, cast_of, pair_refusal, kept_flag, keeps_order}
use Rattle.col_rule.specs.Columns.{mapped_chunks}
use Rattle.col_logical.specs.Logical.{retyped, lie_in_the_day}
use Rattle.col_series.specs.Casts.{cast_by, cast_nulls, cast_under}
use Rattle.col_series.proofs.TypeLemmas.{built_target, built_settled}
use Rattle.col_series.proofs.ColumnLemmas.{gives_column, gives_chunked}
use Rattle.col_cast.specs.Casts.{Ruled, rule_in, ruled}
use Rattle.col_series.proofs.LawLemmas.{kept_slots, none_lost, not_refused}
use Rattle.col_series.proofs.TableLemmas.{chosen-slots}

-- ---- by a rule

-- words under a rule, read as the target, are what the cast gives
pub cast-given : (options : CastOptions) (formula kept : Formula) (target word : DataType) (words changed : Chunked) (lost : Option ℕ)
    → (options ≡ Strict → kept ≡ formula) → changed ≡ mapped_chunks (λ x. value_of formula x x) word words
    → lost ≡ first_lost (slot_by kept) 0 words.column.slots
    → unless_refused (strict_refusal options lost) (retyped target changed).column ≡ cast_by options formula target words.column
cast-given Strict formula kept target word words changed lost same f g = rw (f, g) (rw (same refl) refl)
cast-given NonStrict formula kept target word words changed lost same f g = rw f refl
cast-given Overflowing formula kept target word words changed lost same f g = rw f refl

-- the lost row of a column that isn't too long
this-or-later : (row last : ℕ) (none : Bool) (lost : Option ℕ) → row < last → IfSome lost (λ r. r < last) → IfSome (if none then Some row else lost) (λ r. r < last)
this-or-later row last true lost less h = less
this-or-later row last false lost less h = h

lost-inside : (f : Option Value → Option Value) (row last : ℕ) (slots : List (Option Value)) → row + length slots ≤ last → IfSome (first_lost f row slots) (λ lost. lost < last)
lost-inside f row last [] fits = tt
lost-inside f row last (None ∷ slots) fits = lost-inside f (row + 1) last slots (omega arith)
lost-inside f row last (Some value ∷ slots) fits =
    this-or-later row last (is_none (f (Some value))) (first_lost f (row + 1) slots) (omega arith) (lost-inside f (row + 1) last slots (omega arith))

pub lost-few : (f : Option Value → Option Value) (slots : List (Option Value)) (lost : Option ℕ) → length slots < 2 ^ 32 → lost ≡ first_lost f 0 slots → IfSome lost (λ row. row < 2 ^ 32)
lost-few f slots lost short is = rw is (lost-inside f 0 (2 ^ 32) slots (omega arith))

-- a rule that keeps each integer keeps the slots of a valid column
pub kept-cast : (options : CastOptions) (target : DataType) (column : Column) → IsValidColumn column → column.flag ≡ Not
    → cast_by options X target column ≡ Ok (record column { dtype = target })
kept-cast options target column valid unmarked =
    rw (none_lost column.dtype 0 column.slots valid.values, kept_slots column.dtype column.slots valid.values) (rw (not_refused options, unmarked) refl)

-- ---- without one

-- nulls among slots, and so many others
abbrev nulls-from : ℕ → List (Option Value) → ℕ
nulls-from nulls slots = fold (λ (count : ℕ) (slot : Option Value). count + cond (is_none slot) 1 0) nulls slots

-- a slot is valid where fewer are null than there are
nulls-le : (nulls : ℕ) (slots : List (Option Value)) → nulls-from nulls slots ≤ nulls + length slots
nulls-le nulls [] = omega arith
nulls-le nulls (None ∷ slots) = let rest = nulls-le (nulls + 1) slots in omega arith
nulls-le nulls (Some value ∷ slots) = let rest = nulls-le (nulls + 0) slots in omega arith

valid-from : (nulls : ℕ) (slots : List (Option Value)) → nulls-from nulls slots < nulls + length slots → list_any is_some slots ≡ true
valid-from nulls [] h = absurd (omega arith)
valid-from nulls (None ∷ slots) h = valid-from (nulls + 1) slots (omega arith)
valid-from nulls (Some value ∷ slots) h = refl

none-from : (nulls : ℕ) (slots : List (Option Value)) → nulls + length slots ≤ nulls-from nulls slots → list_any is_some slots ≡ false
none-from nulls [] h = refl
none-from nulls (None ∷ slots) h = none-from (nulls + 1) slots (omega arith)
none-from nulls (Some value ∷ slots) h = let rest = nulls-le (nulls + 0) slots in absurd (omega arith)

pub any-valid : (slots : List (Option Value)) → null_count slots < length slots → list_any is_some slots ≡ true
any-valid slots h = let zero : 0 + length slots ≡ length slots = omega arith in valid-from 0 slots (rw zero h)

-- and none is where all are null
pub none-valid : (slots : List (Option Value)) → length slots ≤ null_count slots → list_any is_some slots ≡ false
none-valid slots h = let zero : 0 + length slots ≡ length slots = omega arith in none-from 0 slots (rw zero h)

-- no value
abbrev null : Option Value
null = None

all-null : (slots : List (Option Value)) → map (λ (slot : Option Value). null) slots ≡ replicate (length slots) None
all-null [] = refl
all-null (slot ∷ slots) = ap (λ (l : List (Option Value)). None ∷ l) (all-null slots)

pub nulls-refused : (target : DataType) (column : Column) → null_count column.slots < length column.slots
    → cast_nulls target column ≡ Err (errors.CastPair (kind_of column.dtype) (kind_of target))
nulls-refused target column h = rw (any-valid column.slots h) refl

pub nulls-given : (target : DataType) (column : Column) → length column.slots ≤ null_count column.slots
    → cast_nulls target column ≡ Ok (record { name = column.name; dtype = target; slots = replicate (length column.slots) None; flag = Not })
nulls-given target column h = rw (none-valid column.slots h) (rw (all-null column.slots) refl)

-- a column of nulls, where there is room
room : (rows : ℕ) → rows < 2 ^ 32 → nat_lt rows (2 ^ 32) ≡ true
room rows h = grind (arith, nat_tests)

pub nulls-of : (result : Result Chunked PolarsError) (name : List ℕ) (dtype : DataType) (rows : ℕ) → rows < 2 ^ 32 → Gives result (null_column name dtype rows)
    → GivesBy column_of result (Ok (record { name = name; dtype = dtype; slots = replicate rows None; flag = Not }))
nulls-of result name dtype rows short gave = gives_column result _ (rw (room rows short) at gave)

-- the answer of a call
abbrev pub given : Chunked → Result Chunked PolarsError
given chunked = Ok chunked

pub given-same : (x y : Chunked) → given x ≡ given y → x ≡ y
given-same x y e = cc

pub null-words : (name : List ℕ) (dtype : DataType) (rows : ℕ) (words : Chunked) → null_column name dtype rows ≡ given words → words.column.slots ≡ replicate rows None
null-words name dtype rows words = go (nat_lt rows (2 ^ 32))
  where
    go : (fits : Bool) → (if fits then given (in_one_chunk (record { name = name; dtype = dtype; slots = replicate rows None; flag = Not })) else Err (errors.TooLong rows)) ≡ given words
        → words.column.slots ≡ replicate rows None
    go true e = ap (λ (c : Chunked). c.column.slots) (sym (given-same _ words e))
    go false e = cc

-- ---- a cast as a whole

no-flag : (kept : Bool) (flag : IsSorted) → flag ≡ Not → kept_flag kept flag ≡ Not
no-flag true flag e = e
no-flag false flag e = refl

under-none : (options : CastOptions) (target : DataType) (column : Column)
    → unless_refused (pair_refusal column.dtype target options None column.slots) (record column { dtype = target; slots = map (cast_slot None) column.slots; flag = Not })
    ≡ cast_nulls target column
under-none options target column = go (list_any is_some column.slots)
  where
    go : (valid : Bool) → unless_refused (if valid then Some (errors.CastPair (kind_of column.dtype) (kind_of target)) else None)
        (record column { dtype = target; slots = map (cast_slot None) column.slots; flag = Not })
        ≡ (if valid then Err (errors.CastPair (kind_of column.dtype) (kind_of target)) else Ok (record column { dtype = target; slots = map (λ (slot : Option Value). null) column.slots; flag = Not }))
    go true = refl
    go false = refl

under : (options : CastOptions) (target : DataType) (column : Column) (rule : Option CastRule)
    → unless_refused (pair_refusal column.dtype target options rule column.slots) (record column { dtype = target; slots = map (cast_slot rule) column.slots; flag = Not })
    ≡ cast_under options rule target column
under options target column None = under-none options target column
under options target column (Some rule) = refl

-- a cast to a target that isn't bad is that by the rule of the table
pub cast-is : (column : Column) (target : DataType) (options : CastOptions) → is_built_target target ≡ true → is_bad_target target ≡ false → column.flag ≡ Not
    → cast_of column target options ≡ cast_under options (cast_rule column.dtype target options) target column
cast-is column target options built good unmarked =
    let flag : (kept : Bool) → kept_flag kept column.flag ≡ Not = λ kept. no-flag kept column.flag unmarked in
    rw (built_settled column.dtype target (built_target target built good))
    (rw (good, flag (keeps_order (cast_rule column.dtype target _) column.slots)) (under options target column (cast_rule column.dtype target options)))

-- ---- by the row of the table

-- a rule that keeps each integer leaves the slots
pub kept-words : (result : Result Chunked PolarsError) (column : Chunked) (target : DataType) (options : CastOptions) (formula : Formula)
    → formula ≡ X → IsValidColumn column.column → column.column.flag ≡ Not → Gives result (Ok (retyped target column))
    → GivesBy column_of result (cast_by options formula target column.column)
kept-words result column target options formula plain valid unmarked gave =
    rw plain (rw (kept-cast options target column.column valid unmarked) (gives_chunked result (retyped target column) gave))

-- ---- types

-- where slots are those of a type, times among them lie in the day
pub in-day : (dtype : DataType) (slots : List (Option Value)) → list_all (is_slot_of dtype) slots ≡ true → lie_in_the_day dtype slots ≡ true
in-day Time slots h = h
in-day dtype slots h = refl

-- so they do where a rule of the table makes them
pub ruled-day : (options : CastOptions) (from target : DataType) (rule : Ruled) (word : DataType) (words changed : Chunked) → is_built_type from ≡ true → is_built_type target ≡ true
    → ruled from target options ≡ Some rule → list_all (is_slot_of from) words.column.slots ≡ true
    → given (mapped_chunks (λ x. value_of (rule_in rule).formula x x) word words) ≡ given changed → lie_in_the_day target changed.column.slots ≡ true
ruled-day options from target rule word words changed h g e fit gave =
    in-day target changed.column.slots (subst (λ (c : Chunked). list_all (is_slot_of target) c.column.slots ≡ true)
    (given-same (mapped_chunks (λ x. value_of (rule_in rule).formula x x) word words) changed gave) (chosen-slots options from target rule words.column.slots h g e fit))

-- the words of a column have the slots of its type
pub moved-values : (column words : Chunked) (from : DataType) → column ≡ retyped column.column.dtype words → column.column.dtype ≡ from
    → list_all (is_slot_of column.column.dtype) column.column.slots ≡ true → list_all (is_slot_of from) words.column.slots ≡ true
moved-values column words from e typed h =
    subst (λ (d : DataType). list_all (is_slot_of d) words.column.slots ≡ true) typed
    (subst (λ (c : Chunked). list_all (is_slot_of column.column.dtype) c.column.slots ≡ true) e h)

-- nulls lie in each day
pub nulls-day : (dtype : DataType) (rows : ℕ) → lie_in_the_day dtype (replicate rows None) ≡ true
nulls-day Time rows = all-fit rows
  where
    all-fit : (rows : ℕ) → list_all (is_slot_of Time) (replicate rows None) ≡ true
    all-fit zero = refl
    all-fit (suc rows) = all-fit rows
nulls-day dtype rows = refl
