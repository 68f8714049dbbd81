-- Words that come one by one: their slots, and where too many of them stop a call.
use Rattle.std.specs.Prelude.{◌≡◌, ◌^◌, ℤ, List, map, Option}
use Rattle.std.specs.Option.{option_map}
use Rattle.col_types.specs.declared.error.PolarsError.{PolarsError}
use Rattle.col_types.specs.declared.error.PolarsError.TheVariants.{TooLong}
use Rattle.col_model.specs.Value.{Value, whole}

-- optional words as slots, None being null
abbrev pub option_slots : {T : Type 0} → (T → ℤ) → List (Option T) → List (Option Value)
option_slots reading items = map (option_map (λ word. whole (reading word))) items

-- a refusal of too many rows tells the least number of them that is too many
abbrev pub StopsAtLimit : PolarsError → Type 0
StopsAtLimit (TooLong rows) = rows ≡ 2 ^ 32
StopsAtLimit refusal = Unit {0}
