-- One more valid column, and a column by its number.
use Rattle.std.proofs.Common.{◌≡◌, ◌<◌, ℕ, List, [], ◌∷◌, ◌++◌, subst, sym, ap, ◌∙◌, arith, length, length-append, Bool, true, false, Some, None}
use Rattle.std.specs.Prelude.{if◌then◌else◌, slice_get}
use Rattle.std.specs.Option.{option_map}
use Rattle.std.specs.List.{All}
use Rattle.std.proofs.lemmas.List.{map-append}
use Rattle.std.proofs.lemmas.List.Elements.{All-push}
use Rattle.std.proofs.lemmas.Option.{slice_get-map}
use Rattle.col_model.specs.Column.{Column, IsValidColumn}
use Rattle.col_model.specs.Chunked.{Chunked, column_of, columns_of}

pub All-pushed : (xs new : List Chunked) (c : Chunked) (b : Bool) →
    new ≡ (if b then xs ++ c ∷ [] else xs) → All IsValidColumn (columns_of xs) →
    IsValidColumn (column_of c) → All IsValidColumn (columns_of new)
All-pushed xs new c true h all one =
    let P : List Column → Type 0 = λ l. All IsValidColumn l in
    subst P (sym (ap columns_of h ∙ map-append column_of xs (c ∷ [])))
    (All-push IsValidColumn (columns_of xs) (column_of c) all one)
All-pushed xs new c false h all one =
    let P : List Column → Type 0 = λ l. All IsValidColumn l in
    subst P (sym (ap columns_of h)) all

pub length-pushed : (xs new ys : List Chunked) (c : Chunked) (b : Bool) →
    new ≡ (if b then xs ++ c ∷ [] else xs) → xs ≡ ys → length ys < 4294967295 →
    length new < 4294967296
length-pushed xs new ys c true h e small =
    omega (arith, ap length h, ap length e, length-append xs (c ∷ []))
length-pushed xs new ys c false h e small = omega (arith, ap length h, ap length e)

-- the columns are numbered as what they are seen as
pub column_there : (xs : List Chunked) (i : ℕ) (c : Chunked) → slice_get xs i ≡ Some c →
    slice_get (columns_of xs) i ≡ Some (column_of c)
column_there xs i c there = slice_get-map column_of xs i ∙ ap (option_map column_of) there

pub no_column : (xs : List Chunked) (i : ℕ) → slice_get xs i ≡ None →
    slice_get (columns_of xs) i ≡ None
no_column xs i none = slice_get-map column_of xs i ∙ ap (option_map column_of) none
