-- Laws of casts between units: a finer unit and back, and chains of casts.
use Rattle.std.specs.Prelude.{◌≡◌, ℕ, Bool, true, ◌&&◌, nat_le, List, [], ◌∷◌, Option, Some}
use Rattle.col_types.specs.TimeUnit.{nanos_per_tick}
use Rattle.col_types.specs.declared.time_unit.TimeUnit.{TimeUnit}
use Rattle.col_types.specs.declared.data_type.DataType.{DataType, Datetime}
use Rattle.col_types.specs.declared.cast_options.CastOptions.TheVariants.{NonStrict}
use Rattle.col_model.specs.Value.{Value}
use Rattle.col_model.specs.CastTable.{cast_rule}
use Rattle.col_model.specs.ColumnCalls.{cast_slot}

-- a slot cast from one type to another; what has no room there becomes null
abbrev pub slot_cast : DataType → DataType → Option Value → Option Value
slot_cast from to slot = cast_slot (cast_rule from to NonStrict) slot

-- a unit with a zone or none
abbrev pub Clock : Type 0
Clock = TimeUnit × Option (List ℕ)

-- the unit
abbrev pub clock_unit : Clock → TimeUnit
clock_unit (unit, _) = unit

-- the type of moments in that unit and zone
abbrev pub moments : Clock → DataType
moments (unit, name) = Datetime unit name

-- whether the second unit is as fine as the first, or finer
abbrev pub is_no_coarser : TimeUnit → TimeUnit → Bool
is_no_coarser from to = nat_le (nanos_per_tick to) (nanos_per_tick from)

-- whether the second unit is as coarse as the first, or coarser
abbrev pub is_no_finer : TimeUnit → TimeUnit → Bool
is_no_finer from to = nat_le (nanos_per_tick from) (nanos_per_tick to)

-- a slot that is valid in a finer unit comes back as it was
abbrev pub ComesBack : {S : Type 0} → (S → DataType) → (S → TimeUnit) → Type 0
ComesBack {S} dtype unit =
    (from to : S) (before after : Value) → is_no_coarser (unit from) (unit to) ≡ true →
    slot_cast (dtype from) (dtype to) (Some before) ≡ Some after →
    slot_cast (dtype to) (dtype from) (Some after) ≡ Some before

-- ---- chains

-- a slot cast to one type after the other
abbrev pub slot_through : {S : Type 0} → (S → DataType) → S → List S → Option Value → Option Value
slot_through dtype from [] slot = slot
slot_through dtype from (to ∷ stops) slot =
    slot_through dtype to stops (slot_cast (dtype from) (dtype to) slot)

-- the last stop of a chain
abbrev pub last_stop : {S : Type 0} → S → List S → S
last_stop from [] = from
last_stop from (to ∷ stops) = last_stop to stops

-- whether each step of a chain goes so from one unit to the next
abbrev pub each_step : {S : Type 0} → (S → TimeUnit) → (TimeUnit → TimeUnit → Bool) → S → List S →
    Bool
each_step unit goes from [] = true
each_step unit goes from (to ∷ stops) = goes (unit from) (unit to) && each_step unit goes to stops

-- a chain of one cast or more whose steps all go so is the cast from its first type to its last one
abbrev pub IsOneCast : {S : Type 0} → (S → DataType) → (S → TimeUnit) →
    (TimeUnit → TimeUnit → Bool) → Type 0
IsOneCast {S} dtype unit goes =
    (from to : S) (stops : List S) (slot : Option Value) →
    each_step unit goes from (to ∷ stops) ≡ true →
    slot_through dtype from (to ∷ stops) slot
    ≡ slot_cast (dtype from) (dtype (last_stop to stops)) slot
