-- The laws by which a column closes that an iterator gives.
use Rattle.std.specs.Prelude.{◌≡◌, ◌+◌, ◌^◌, ℕ, ℤ, List, [], ◌∷◌, ◌++◌, length, Option, Some, Err}
use Rattle.std.specs.Option.{option_map}
use Rattle.std.specs.Iterator.{Yields}
use Rattle.std.proofs.Common.{subst, ap, sym, ◌∙◌, arith}
use Rattle.std.proofs.iter.Next.{Yields-more}
use Rattle.std.proofs.lemmas.List.{length-append, map-append}
use Rattle.col_types.specs.declared.error.PolarsError.TheVariants.{TooLong}
use Rattle.col_model.specs.ChunkCalls.{unless_too_long}
use Rattle.col_model.specs.Items.{AnswersItems}
use Rattle.col_model.specs.Value.{whole}
use Rattle.col_chunk.specs.Items.{option_slots}

-- one item more
pub option_slots_more : {T : Type 0} (reading : T → ℤ) (items : List (Option T)) (item : Option T)
    → option_slots reading (items ++ item ∷ []) ≡ option_slots reading items ++ option_map (λ word. whole (reading word)) item ∷ []
option_slots_more reading items item = map-append (option_map (λ word. whole (reading word))) items (item ∷ [])

-- the items up to the first too many
pub read_too_many : {S A X : Type 0} (steps : S → Option A → S → Type 0) (start : S) (built : List A → X) (from middle end : S) (items : List A) (item : A) (rows : ℕ)
    → from ≡ start → Yields steps from items middle → steps middle (Some item) end → rows ≡ length items + 1 → rows ≡ 2 ^ 32
    → AnswersItems steps start (λ read. unless_too_long (length read) (built read)) (Err (TooLong rows))
read_too_many {A} steps start built from middle end items item rows same led step counted limit =
    let read : List A = items ++ item ∷ [] in
    let long : length read ≡ 2 ^ 32 = omega (arith, length-append items (item ∷ []), counted, limit) in (
      read,
      end,
      Yields-more steps start items middle item end (subst (λ s. Yields steps s items middle) same led) step,
      ap (λ (n : ℕ). unless_too_long n (built read)) long ∙ ap (λ (n : ℕ). Err (TooLong n)) (sym limit),
    )
