-- The code finds the plan that columns give, node by node.
use Rattle.std.proofs.Common.{◌≡◌, ℕ, ◌+◌, List, ◌++◌, true, Option, Some, None, refl, sym, ap, ◌∙◌}
use Rattle.std.proofs.Common.{arith, append_assoc}
use Rattle.std.specs.Prelude.{slice_get, IfSome, OnSome}
use Rattle.col_types.specs.declared.data_type.DataType.{DataType}
use Rattle.col_model.specs.Arithmetic.{Interval}
use Rattle.col_model.specs.Column.{Column}
use Rattle.col_expr.specs.Tree.{Tree, Input, Binary}
use Rattle.col_expr.specs.Tree.{node_count}
use Rattle.col_expr.specs.Numbers.{below, numbers_from}
use Rattle.col_expr.specs.Meaning.{dtype_of}
use Rattle.col_expr.specs.Plan.{Plan, bound_by, ends_before}
use Rattle.col_expr.specs.FoundPlan.{spanned_by, fitting, found_interval, entry_for, found_from}
use Rattle.col_types.specs.declared.operator.BinOp.{BinOp}
use Rattle.col_expr.specs.declared.node.UnaryOp.{UnaryOp}
use Rattle.col_expr.specs.declared.node.UnaryOp.TheVariants as operations
use Rattle.col_expr.specs.declared.part.Part.{Part}
use Rattle.col_expr.specs.Node.{over}
use Rattle.col_expr.specs.PlanNode.{operation_dtype, operation_image, pair_dtype, pair_image}
use Rattle.col_expr.specs.PlanNode.{part_dtype, part_bound, image_dtype, image_interval}
use Rattle.col_expr.specs.PlanNode.{column_dtype, IsFoundPart, IsCovered}
use Rattle.col_expr.proofs.FoundPlanLemmas.{ends-append, ends-more, found-ends}
use Rattle.col_expr.proofs.PlanNodeLemmas.{dtype-over}

fitting-untyped : (o : Option Interval) → fitting None o ≡ None
fitting-untyped None = refl
fitting-untyped (Some range) = refl

-- the interval of an image is the one that is found, where there is a type
fitting-image : (image : Option (DataType × Option Interval)) (dtype : Option DataType) (p : Option Interval) → image_dtype image ≡ dtype → IfSome image (λ typed. typed.1 ≡ p) → fitting (image_dtype image) (image_interval image) ≡ fitting dtype p
fitting-image None dtype p e h = sym (ap (λ d. fitting d p) (sym e) ∙ fitting-untyped p)
fitting-image (Some typed) dtype p e h = ap (fitting (Some typed.0)) h ∙ ap (λ d. fitting d p) e

-- a part that is covered by its image, by what is found for its tree
covered_found : (inputs : List Column) (tree : Tree) (image : Option (DataType × Option Interval)) (p : Option Interval) (part : Part) → image_dtype image ≡ dtype_of inputs tree → IfSome image (λ typed. typed.1 ≡ p)
    → found_interval inputs tree ≡ fitting (dtype_of inputs tree) p → IsCovered image part → IsFoundPart inputs tree part
covered_found inputs tree image p part typed imaged found covered =
    let same : fitting (image_dtype image) (image_interval image) ≡ found_interval inputs tree = fitting-image image (dtype_of inputs tree) p typed imaged ∙ sym found in
    record {
      typed = covered.typed ∙ typed;
      bounded = covered.bounded ∙ ap (λ o. bound_by o (image_dtype image)) same ∙ ap (bound_by (found_interval inputs tree)) typed;
      known = covered.known;
    }

found-over : (inputs : List Column) (op : UnaryOp) (e : Tree) → found_interval inputs (over op e) ≡ fitting (dtype_of inputs (over op e)) (operation_image op (dtype_of inputs e) (bound_by (found_interval inputs e) (dtype_of inputs e)))
found-over inputs (operations.Cast t o) e = refl
found-over inputs (operations.ScalarRight op k) e = refl
found-over inputs (operations.ScalarLeft k op) e = refl
found-over inputs (operations.InUnit u) e = refl
found-over inputs (operations.Shift p) e = refl

from-over : (inputs : List Column) (first : ℕ) (op : UnaryOp) (e : Tree) → found_from inputs (numbers_from first (over op e)) (over op e) ≡ found_from inputs (numbers_from first e) e ++ entry_for (first + node_count e) (found_interval inputs (over op e))
from-over inputs first (operations.Cast t o) e = refl
from-over inputs first (operations.ScalarRight op k) e = refl
from-over inputs first (operations.ScalarLeft k op) e = refl
from-over inputs first (operations.InUnit u) e = refl
from-over inputs first (operations.Shift p) e = refl

-- an operation over a part that is found
pub record UnaryFound (inputs : List Column) (op : UnaryOp) (e : Tree) (below : Part) (image : Option (DataType × Option Interval)) : Type 0 where
  pub part : (part : Part) → IsCovered image part → IsFoundPart inputs (over op e) part
  pub fits : fitting (image_dtype image) (image_interval image) ≡ found_interval inputs (over op e)

pub unary_found : (inputs : List Column) (op : UnaryOp) (e : Tree) (below : Part) (image : Option (DataType × Option Interval)) → IsFoundPart inputs e below → image_dtype image ≡ operation_dtype op (part_dtype below)
    → IfSome image (λ typed. typed.1 ≡ operation_image op (part_dtype below) (part_bound below)) → UnaryFound inputs op e below image
unary_found inputs op e below image is typed imaged =
    let t : image_dtype image ≡ dtype_of inputs (over op e) = typed ∙ ap (operation_dtype op) is.typed ∙ sym (dtype-over inputs op e) in
    let p = operation_image op (part_dtype below) (part_bound below) in
    let same : p ≡ operation_image op (dtype_of inputs e) (bound_by (found_interval inputs e) (dtype_of inputs e)) =
    ap (λ d. operation_image op d (part_bound below)) is.typed ∙ ap (operation_image op (dtype_of inputs e)) is.bounded in
    let found : found_interval inputs (over op e) ≡ fitting (dtype_of inputs (over op e)) p = found-over inputs op e ∙ ap (fitting (dtype_of inputs (over op e))) (sym same) in
    record {
      part = λ part covered. covered_found inputs (over op e) image p part t imaged found covered;
      fits = fitting-image image (dtype_of inputs (over op e)) p t imaged ∙ sym found;
    }

pub unary_plan : (inputs : List Column) (first number : ℕ) (op : UnaryOp) (e : Tree) (old mid new : Plan) (o : Option Interval) → number ≡ first + node_count e → mid ≡ old ++ found_from inputs (numbers_from first e) e
    → o ≡ found_interval inputs (over op e) → new ≡ mid ++ entry_for number o → new ≡ old ++ found_from inputs (numbers_from first (over op e)) (over op e)
unary_plan inputs first number op e old mid new o is at same last =
    last ∙ ap (λ p. p ++ entry_for number o) at ∙ ap (λ n. (old ++ found_from inputs (numbers_from first e) e) ++ entry_for n o) is
    ∙ ap (λ i. (old ++ found_from inputs (numbers_from first e) e) ++ entry_for (first + node_count e) i) same
    ∙ append_assoc old (found_from inputs (numbers_from first e) e) (entry_for (first + node_count e) (found_interval inputs (over op e)))
    ∙ ap (λ p. old ++ p) (sym (from-over inputs first op e))

pub plan_ends : (inputs : List Column) (first number : ℕ) (e : Tree) (old mid : Plan) → number ≡ first + node_count e → mid ≡ old ++ found_from inputs (numbers_from first e) e → ends_before old first ≡ true → ends_before mid number ≡ true
plan_ends inputs first number e old mid is at h =
    ap (λ p. ends_before p number) at ∙ ap (ends_before (old ++ found_from inputs (numbers_from first e) e)) is
    ∙ ends-append old (found_from inputs (numbers_from first e) e) (first + node_count e) (ends-more old first (first + node_count e) (omega arith) h) (found-ends inputs e first)

pub record BinaryFound (inputs : List Column) (op : BinOp) (l r : Tree) (image : Option (DataType × Option Interval)) : Type 0 where
  pub part : (part : Part) → IsCovered image part → IsFoundPart inputs (Binary op l r) part
  pub fits : fitting (image_dtype image) (image_interval image) ≡ found_interval inputs (Binary op l r)

pub binary_found : (inputs : List Column) (op : BinOp) (l r : Tree) (left right : Part) (image : Option (DataType × Option Interval)) → IsFoundPart inputs l left → IsFoundPart inputs r right
    → image_dtype image ≡ pair_dtype op (part_dtype left) (part_dtype right) → IfSome image (λ typed. typed.1 ≡ pair_image op (part_dtype left) (part_dtype right) (part_bound left) (part_bound right)) → BinaryFound inputs op l r image
binary_found inputs op l r left right image lis ris typed imaged =
    let t : image_dtype image ≡ dtype_of inputs (Binary op l r) = typed ∙ ap (λ d. pair_dtype op d (part_dtype right)) lis.typed ∙ ap (pair_dtype op (dtype_of inputs l)) ris.typed in
    let p = pair_image op (part_dtype left) (part_dtype right) (part_bound left) (part_bound right) in
    let lb = bound_by (found_interval inputs l) (dtype_of inputs l) in
    let rb = bound_by (found_interval inputs r) (dtype_of inputs r) in
    let same : p ≡ pair_image op (dtype_of inputs l) (dtype_of inputs r) lb rb =
    ap (λ d. pair_image op d (part_dtype right) (part_bound left) (part_bound right)) lis.typed
    ∙ ap (λ d. pair_image op (dtype_of inputs l) d (part_bound left) (part_bound right)) ris.typed
    ∙ ap (λ b. pair_image op (dtype_of inputs l) (dtype_of inputs r) b (part_bound right)) lis.bounded
    ∙ ap (pair_image op (dtype_of inputs l) (dtype_of inputs r) lb) ris.bounded in
    let found : found_interval inputs (Binary op l r) ≡ fitting (dtype_of inputs (Binary op l r)) p = ap (fitting (dtype_of inputs (Binary op l r))) (sym same) in
    record {
      part = λ part covered. covered_found inputs (Binary op l r) image p part t imaged found covered;
      fits = fitting-image image (dtype_of inputs (Binary op l r)) p t imaged ∙ sym found;
    }

pub binary_plan : (inputs : List Column) (first second number : ℕ) (op : BinOp) (l r : Tree) (old one mid new : Plan) (o : Option Interval) → second ≡ first + node_count l → number ≡ second + node_count r
    → one ≡ old ++ found_from inputs (numbers_from first l) l → mid ≡ one ++ found_from inputs (numbers_from second r) r → o ≡ found_interval inputs (Binary op l r) → new ≡ mid ++ entry_for number o
    → new ≡ old ++ found_from inputs (numbers_from first (Binary op l r)) (Binary op l r)
binary_plan inputs first second number op l r old one mid new o next is at1 at2 same last =
    let a = found_from inputs (numbers_from first l) l in
    let b = found_from inputs (numbers_from (first + node_count l) r) r in
    let entry = entry_for (first + node_count l + node_count r) (found_interval inputs (Binary op l r)) in
    let is' : number ≡ first + node_count l + node_count r = is ∙ ap (λ n. n + node_count r) next in
    last ∙ ap (λ p. p ++ entry_for number o) (at2 ∙ ap (λ q. q ++ found_from inputs (numbers_from second r) r) at1 ∙ ap (λ n. (old ++ a) ++ found_from inputs (numbers_from n r) r) next)
    ∙ ap (λ n. ((old ++ a) ++ b) ++ entry_for n o) is' ∙ ap (λ i. ((old ++ a) ++ b) ++ entry_for (first + node_count l + node_count r) i) same
    ∙ append_assoc (old ++ a) b entry ∙ append_assoc old a (b ++ entry)

pub input_found : (inputs : List Column) (index : ℕ) (column : Option Column) (image : Option (DataType × Option Interval)) (part : Part) → column ≡ slice_get inputs index → image_dtype image ≡ column_dtype column
    → image_interval image ≡ spanned_by column → IsCovered image part → IsFoundPart inputs (Input index) part
input_found inputs index column image part at typed imaged covered =
    let t : image_dtype image ≡ dtype_of inputs (Input index) = typed ∙ ap column_dtype at in
    let found : fitting (image_dtype image) (image_interval image) ≡ found_interval inputs (Input index) =
    ap (fitting (image_dtype image)) (imaged ∙ ap spanned_by at) ∙ ap (λ d. fitting d (spanned_by (slice_get inputs index))) t in
    record {
      typed = covered.typed ∙ t;
      bounded = covered.bounded ∙ ap (λ o. bound_by o (image_dtype image)) found ∙ ap (bound_by (found_interval inputs (Input index))) t;
      known = covered.known;
    }

pub input_fits : (inputs : List Column) (index : ℕ) (column : Option Column) (image : Option (DataType × Option Interval)) → column ≡ slice_get inputs index → image_dtype image ≡ column_dtype column → image_interval image ≡ spanned_by column
    → fitting (image_dtype image) (image_interval image) ≡ found_interval inputs (Input index)
input_fits inputs index column image at typed imaged =
    ap (fitting (image_dtype image)) (imaged ∙ ap spanned_by at) ∙ ap (λ d. fitting d (spanned_by (slice_get inputs index))) (typed ∙ ap column_dtype at)

pub on_some : {X : Type 0} {P Q : Type 0} (o : Option X) → (P → Q) → OnSome o P → OnSome o Q
on_some None f h = h
on_some (Some x) f h = f h

pub if_some : {X : Type 0} {P Q : X → Type 0} (o : Option X) → ((x : X) → P x → Q x) → IfSome o P → IfSome o Q
if_some None f h = h
if_some (Some x) f h = f x h

pub input_plan : (inputs : List Column) (first number index : ℕ) (column : Option Column) (image : Option (DataType × Option Interval)) (old new : Plan) (result : Option Part) → number ≡ first → column ≡ slice_get inputs index
    → image_dtype image ≡ column_dtype column → image_interval image ≡ spanned_by column → ends_before old first ≡ true
    → (ends_before old number ≡ true → OnSome result (new ≡ old ++ entry_for number (fitting (image_dtype image) (image_interval image))))
    → OnSome result (new ≡ old ++ found_from inputs (numbers_from first (Input index)) (Input index))
input_plan inputs first number index column image old new result is at typed imaged ends covered =
    on_some result (λ last. last ∙ ap (λ n. old ++ entry_for n (fitting (image_dtype image) (image_interval image))) is
    ∙ ap (λ o. old ++ entry_for first o) (input_fits inputs index column image at typed imaged))
    (covered (ap (ends_before old) is ∙ ends))
