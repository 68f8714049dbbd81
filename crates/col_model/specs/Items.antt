-- What a call answers that reads items from an iterator.
use Rattle.std.specs.Prelude.{◌≡◌, List, Option, Result, Ok, Err}
use Rattle.std.specs.Iterator.{Drains, Yields}
use Rattle.col_types.specs.declared.error.PolarsError.{PolarsError}
use Rattle.col_types.specs.declared.error.PolarsError.TheVariants.{NoMemory}

-- On Ok the items are all that there were; on a refusal they are those that were read until then.
-- The answer is what is expected of them, unless memory was wanting.
abbrev pub AnswersItems :
    {S A C : Type 0} → (S → Option A → S → Type 0) → S → (List A → Result C PolarsError) →
    Result C PolarsError → Type 0
AnswersItems {A = A} steps start expected (Ok answer) =
    (items : List A) × Drains steps start items × (expected items ≡ Ok answer)
AnswersItems steps start expected (Err NoMemory) = Unit {0}
AnswersItems {S} {A} steps start expected (Err refusal) =
    (items : List A) × (end : S) × Yields steps start items end × (expected items ≡ Err refusal)
