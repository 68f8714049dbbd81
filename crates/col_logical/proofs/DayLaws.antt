-- What is a time of the day or null lies in the day.
use Rattle.std.specs.Prelude.{◌≡◌, ℤ, Bool, true, false, List, [], ◌∷◌, map, Option, Some, None, Result, Ok, Err, IfOk, if◌then◌else◌}
use Rattle.std.specs.List.{list_all}
use Rattle.std.proofs.Common.{refl, subst}
use Rattle.col_types.specs.PolarsError.{Gives}
use Rattle.col_types.specs.declared.error.PolarsError.{PolarsError}
use Rattle.col_types.specs.declared.data_type.DataType.{Time}
use Rattle.col_model.specs.Arithmetic.{fitting_value, is_within}
use Rattle.col_model.specs.Column.{day_values, is_slot_of}
use Rattle.col_model.specs.Chunked.{Chunked}
use Rattle.col_logical.specs.Logical.{lie_in_the_day, times_of}
use Rattle.col_logical.proofs.AnswerLaws.{answer-same}
use Rattle.col_model.specs.Value.{Value, Flat, Whole, Bytes, Nested, integer_slot, on_slot}

-- an integer in the day, or null
fitting-slot : (x : ℤ) → is_slot_of Time (integer_slot (fitting_value day_values x)) ≡ true
fitting-slot x = by_test (is_within day_values x) refl
  where
    by_test : (b : Bool) → is_within day_values x ≡ b → is_slot_of Time (integer_slot (if b then Some x else None)) ≡ true
    by_test true e = e
    by_test false e = refl

one-slot : (slot : Option Value) → is_slot_of Time (on_slot (fitting_value day_values) slot) ≡ true
one-slot None = refl
one-slot (Some (Flat (Whole x))) = fitting-slot x
one-slot (Some (Flat (Bytes b))) = refl
one-slot (Some (Nested leaves)) = refl

pub fitting-slots : (slots : List (Option Value)) → list_all (is_slot_of Time) (map (on_slot (fitting_value day_values)) slots) ≡ true
fitting-slots [] = refl
fitting-slots (slot ∷ slots) = rw (one-slot slot) (fitting-slots slots)

-- so words as times of the day lie in the day
pub times-day : (result : Result Chunked PolarsError) (words : Chunked) → Gives result (Ok (times_of words)) → IfOk result (λ times. lie_in_the_day Time times.column.slots ≡ true)
times-day (Ok times) words given =
    subst (λ (t : Chunked). lie_in_the_day Time t.column.slots ≡ true) (answer-same (times_of words) times given) (fitting-slots words.column.slots)
times-day (Err refusal) words given = tt
