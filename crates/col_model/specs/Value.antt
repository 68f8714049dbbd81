-- The values of slots, in columns of any type.
use Rattle.std.specs.Prelude.{ℕ, ℤ, List, Option, Some, None}
use Rattle.std.specs.Option.{option_map}

-- a value that holds no others: an integer, or the bytes of a text
pub data Leaf : Type 0 where
  Whole : ℤ → Leaf
  Bytes : List ℕ → Leaf

-- a value of a slot: flat, or a list of leaf slots
pub data Value : Type 0 where
  Flat : Leaf → Value
  Nested : List (Option Leaf) → Value

-- an integer as a value
abbrev pub whole : ℤ → Value
whole x = Flat (Whole x)

-- an optional integer as a slot
abbrev pub integer_slot : Option ℤ → Option Value
integer_slot slot = option_map whole slot

-- a function of an integer on a slot, null where the slot has none
abbrev pub on_slot : (ℤ → Option ℤ) → Option Value → Option Value
on_slot f (Some (Flat (Whole x))) = integer_slot (f x)
on_slot f (Some (Flat (Bytes b))) = None
on_slot f (Some (Nested leaves)) = None
on_slot f None = None

-- a function of two integers on two slots, null where a slot has none
abbrev pub on_slots : (ℤ → ℤ → Option ℤ) → Option Value → Option Value → Option Value
on_slots f (Some (Flat (Whole x))) slot = on_slot (f x) slot
on_slots f (Some (Flat (Bytes b))) slot = None
on_slots f (Some (Nested leaves)) slot = None
on_slots f None slot = None
