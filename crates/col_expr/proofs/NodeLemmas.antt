-- What a part of an expression answers, where the answer that is due is known.
use Rattle.std.proofs.Common.{◌≡◌, ℕ, ◌+◌, ◌<◌, List, length, get_or, Option, Some, None, refl, sym, ap, ◌∙◌, subst, arith, Result, Ok, Err, slice_get, nat_lt, IfOk, OnOk, Bool, true, false, lt-ltb}
use Rattle.std.specs.Prelude.{if◌then◌else◌, unwrap_or}
use Rattle.std.specs.Option.{option_map}
use Rattle.std.proofs.lemmas.Bool.Decides.{nat_tests}
use Rattle.std.proofs.lemmas.Option.{slice_get_within, slice_get_cases}
use Rattle.col_types.specs.declared.error.PolarsError.{PolarsError}
use Rattle.col_model.specs.Column.{Column}
use Rattle.col_model.specs.Chunked.{Chunked, column_of}
use Rattle.col_model.specs.Broadcast.{column_slots}
use Rattle.col_model.specs.OperatorCalls.{slot_in}
use Rattle.col_expr.specs.declared.error.EvalError.{EvalError}
use Rattle.col_expr.specs.declared.error.EvalError.TheVariants as refusals
use Rattle.col_expr.specs.Tree.{Tree, Input}
use Rattle.col_expr.specs.Numbers.{Numbers, One}
use Rattle.col_expr.specs.Meaning.{row_count, slot_at, slots_of, input_slot, step_count}
use Rattle.col_expr.specs.Refusal.{at_node, first_refusal, Unless, Gives, GivesBy}
use Rattle.col_expr.specs.Found.{IsColumnOf, IsFine, IsFineBy, IsFound, IsFoundBy, numbered}
use Rattle.col_expr.proofs.Slots.{column_slots-own, get_or-column_slots}

-- from one fact that is owed to another
pub Unless-map : (e : EvalError) {P Q : Type 0} → (P → Q) → Unless e P → Unless e Q
Unless-map (refusals.NoColumn node index count) f p = f p
Unless-map (refusals.Lengths node left right) f p = f p
Unless-map (refusals.BadType node) f p = f p
Unless-map (refusals.Unsupported node) f p = f p
Unless-map (refusals.Scalar node) f p = f p
Unless-map (refusals.Strict node row) f p = f p
Unless-map refusals.NoMemory f p = tt

-- what a part with this refusal answers where memory is there
abbrev pub IsDueBy : List Column → Option EvalError → Tree → Result Column EvalError → Type 0
IsDueBy inputs refused t (Ok column) = IsFineBy inputs refused t column
IsDueBy inputs refused t (Err error) = refused ≡ Some error

-- the answer that is due is found
pub found_due : (inputs : List Column) (refused : Option EvalError) (t : Tree)
    (due : Result Column EvalError) (answer : Result Chunked EvalError) →
    IsDueBy inputs refused t due → GivesBy column_of answer due → IsFoundBy inputs refused t answer
found_due inputs refused t (Ok column) (Ok x) is gives =
    let at : column ≡ column_of x = cc in
    let P : Column → Type 0 = λ c. IsFineBy inputs refused t c in subst P at is
found_due inputs refused t (Ok column) (Err error) is gives = Unless-map error (λ h. cc) gives
found_due inputs refused t (Err e) (Ok x) is gives = cc
found_due inputs refused t (Err e) (Err error) is gives =
    Unless-map error (λ h. let at : e ≡ error = cc in is ∙ ap Some at) gives

-- the same of an answer that is the column with its chunks
pub found_whole : (inputs : List Column) (refused : Option EvalError) (t : Tree) (whole : Chunked)
    (answer : Result Chunked EvalError) → IsFineBy inputs refused t (column_of whole) →
    Gives answer (Ok whole) → IsFoundBy inputs refused t answer
found_whole inputs refused t whole (Ok x) is gives =
    let at : whole ≡ x = cc in
    let P : Chunked → Type 0 = λ c. IsFineBy inputs refused t (column_of c) in subst P at is
found_whole inputs refused t whole (Err error) is gives = Unless-map error (λ h. cc) gives

pub row_count-is : (inputs : List Column) (t : Tree) (c : Column) → IsColumnOf inputs t c →
    row_count inputs t ≡ length c.slots
row_count-is inputs t c is = ap (λ rows. unwrap_or rows 0) is.long

-- a column's slots are the tree's
pub slots_of-is : (inputs : List Column) (t : Tree) (c : Column) → IsColumnOf inputs t c →
    slots_of inputs t ≡ c.slots
slots_of-is inputs t c is =
    ap (column_slots (slot_at inputs t)) (row_count-is inputs t c is) ∙ sym is.filled

-- a column's slot in a row is the tree's
pub slot_in-is : (inputs : List Column) (t : Tree) (c : Column) (row : ℕ) →
    IsColumnOf inputs t c → row < length c.slots → slot_in c row ≡ slot_at inputs t row
slot_in-is inputs t c row is h =
    ap (λ slots. get_or slots row None) is.filled
    ∙ get_or-column_slots (slot_at inputs t) (length c.slots) row h

-- an answer that was given by a call is the node's
pub due_by : (inputs : List Column) (refused : Option EvalError) (node : ℕ) (t : Tree)
    (column : Column) (error : PolarsError) (holds : Bool) →
    refused ≡ (if holds then None else Some (at_node node error)) →
    (holds ≡ true → IsColumnOf inputs t column) →
    IsDueBy inputs refused t (numbered node (if holds then Ok column else Err error))
due_by inputs refused node t column error true same is =
    record { fine = same; column_is = is refl }
due_by inputs refused node t column error false same is = same

-- the column of an input
column_of_input : (inputs : List Column) (index : ℕ) (c : Column) →
    slice_get inputs index ≡ Some c → IsColumnOf inputs (Input index) c
column_of_input inputs index c there =
    record {
      named = ap (option_map (λ (x : Column). x.name)) there;
      typed = ap (option_map (λ (x : Column). x.dtype)) there;
      long = ap (option_map (λ (x : Column). length x.slots)) there;
      filled = column_slots-own c.slots
          ∙ ap (λ o. column_slots (input_slot o) (length c.slots)) (sym there);
      flagged = rw there refl;
    }

-- an input that is there
pub found_input : (inputs : List Column) (node index : ℕ) (c : Column) →
    slice_get inputs index ≡ Some c → IsFine inputs (One node) (Input index) c
found_input inputs node index c there =
    record {
      fine = rw (lt-ltb index (length inputs) (slice_get_within inputs index c there)) refl;
      column_is = column_of_input inputs index c there;
    }

not_below : (xs : List Column) (i : ℕ) → slice_get xs i ≡ None → nat_lt i (length xs) ≡ false
not_below xs i h = grind (arith, nat_tests, slice_get_cases)

-- an input that is past the end
pub no_input : (inputs : List Column) (node index : ℕ) → slice_get inputs index ≡ None →
    first_refusal inputs (One node) (Input index) ≡ Some (refusals.NoColumn node index (length inputs))
no_input inputs node index none =
    ap (λ b. if b then None else Some (refusals.NoColumn node index (length inputs)))
    (not_below inputs index none)

-- the steps of a node, from those below it and the slots of its column
pub steps_above : (inputs : List Column) (numbers : Numbers) (before mid after below : ℕ) (t : Tree)
    (answer : Result Chunked EvalError) → step_count inputs t ≡ below + row_count inputs t →
    IsFound inputs numbers t answer → mid ≡ before + below →
    IfOk answer (λ found. after ≡ mid + length found.column.slots) →
    OnOk answer (after ≡ before + step_count inputs t)
steps_above inputs numbers before mid after below t (Ok found) all is low high =
    let rows : row_count inputs t ≡ length found.column.slots =
    row_count-is inputs t (column_of found) is.column_is in
    omega (arith, all, rows, low, high)
steps_above inputs numbers before mid after below t (Err error) all is low high = tt
