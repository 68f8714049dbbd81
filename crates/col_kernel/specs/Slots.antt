-- Slots: a slot is null or an integer. Functions of integers over lists of slots.
use Rattle.std.specs.Prelude.{ℤ, List, [], ◌∷◌, Option, map}
use Rattle.std.specs.Option.{option_map, option_and_then}
use Rattle.col_model.specs.Formula.{on_both}

-- the slots that optional words stand for
abbrev pub slots_of : {T : Type 0} → (T → ℤ) → List (Option T) → List (Option ℤ)
slots_of reading words = map (option_map reading) words

-- a function of one integer at each place, null where the slot is
abbrev pub map_slots : (ℤ → Option ℤ) → List (Option ℤ) → List (Option ℤ)
map_slots f slots = map (option_and_then f) slots

-- a function of two integers at each place of two lists of one length, null where one of them is
abbrev pub zip_slots : (ℤ → ℤ → Option ℤ) → List (Option ℤ) → List (Option ℤ) → List (Option ℤ)
zip_slots f [] right = []
zip_slots f (x ∷ left) [] = []
zip_slots f (x ∷ left) (y ∷ right) = on_both f x y ∷ zip_slots f left right

-- a function of two integers at each place, the second of which is the scalar
abbrev pub slots_scalar : (ℤ → ℤ → Option ℤ) → List (Option ℤ) → ℤ → List (Option ℤ)
slots_scalar f slots scalar = map_slots (λ x. f x scalar) slots

-- the same, where the first of the two is the scalar
abbrev pub scalar_slots : (ℤ → ℤ → Option ℤ) → ℤ → List (Option ℤ) → List (Option ℤ)
scalar_slots f scalar slots = map_slots (f scalar) slots
