-- Items that come one by one.
use Rattle.std.specs.Prelude.{◌≡◌, ◌++◌, ◌&&◌, Bool, true, List, [], ◌∷◌, Option, Some, Ok, Err}
use Rattle.std.specs.Iterator.{Yields}
use Rattle.std.specs.List.{list_all}
use Rattle.std.proofs.Common.{refl, ap, subst, ◌∙◌}
use Rattle.std.proofs.iter.Next.{Yields-more}
use Rattle.std.proofs.lemmas.List.Folds.{list_all-append}
use Rattle.std.proofs.lemmas.List.Sums.{fold-append}
use Rattle.col_types.specs.PolarsError.{GivesBy}
use Rattle.col_types.specs.declared.data_type.DataType.{DataType, Time}
use Rattle.col_types.specs.declared.error.PolarsError.{PolarsError}
use Rattle.col_types.specs.declared.error.PolarsError.TheVariants.{NoMemory}
use Rattle.col_model.specs.Column.{is_slot_of}
use Rattle.col_model.specs.Items.{AnswersItems}
use Rattle.col_model.specs.Value.{Value}
use Rattle.col_logical.specs.Logical.{lie_in_the_day}
use Rattle.col_civil.specs.Made.{Reader, slots_of_items, with_item}

-- one item more
pub slots_of_items_more : {A : Type 0} (read : Reader A) (items : List A) (item : A)
    → slots_of_items read (items ++ item ∷ []) ≡ with_item read (slots_of_items read items) item
slots_of_items_more read items item = fold-append (with_item read) (Ok []) items (item ∷ [])

-- one slot more that lies in the day
all_more : {A : Type 0} (has : A → Bool) (xs : List A) (x : A) → list_all has xs ≡ true
    → list_all has (x ∷ []) ≡ true → list_all has (xs ++ x ∷ []) ≡ true
all_more has xs x all one = list_all-append has xs (x ∷ []) ∙ ap (λ (b : Bool). b && list_all has (x ∷ [])) all ∙ one

pub day_more : (dtype : DataType) (slots : List (Option Value)) (slot : Option Value)
    → lie_in_the_day dtype slots ≡ true → lie_in_the_day dtype (slot ∷ []) ≡ true
    → lie_in_the_day dtype (slots ++ slot ∷ []) ≡ true
day_more Time slots slot all one = all_more (is_slot_of Time) slots slot all one
day_more dtype slots slot all one = refl

-- the answer where the last item that was read is refused
pub answers_refused : {S A : Type 0} (steps : S → Option A → S → Type 0) (start : S) (read : Reader A)
    (items : List A) (item : A) (slots after : List (Option Value)) (from middle end : S) (refusal : PolarsError)
    → from ≡ start → Yields steps from items middle → steps middle (Some item) end
    → slots_of_items read items ≡ Ok slots
    → GivesBy {X = Unit {0}} (λ _. after) (Err refusal) (with_item read (Ok slots) item)
    → AnswersItems steps start (slots_of_items read) (Err refusal)
answers_refused steps start read items item slots after from middle end NoMemory same led step so gives = tt
answers_refused steps start read items item slots after from middle end refusal same led step so gives = (
  items ++ item ∷ [],
  end,
  Yields-more steps start items middle item end (subst (λ s. Yields steps s items middle) same led) step,
  slots_of_items_more read items item ∙ ap (λ r. with_item read r item) so ∙ gives,
)
