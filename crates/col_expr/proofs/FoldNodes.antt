-- Nodes over folded operands: their refusals, and two operands.
use Rattle.std.proofs.Common.{◌≡◌, ℕ, ◌+◌, Bool, true, false, ◌&&◌, List, length, Option, Some}
use Rattle.std.proofs.Common.{None, Result, Ok, Err, IfOk, OnOk, refl, sym, ap, ◌∙◌, subst}
use Rattle.std.specs.Prelude.{if◌then◌else◌}
use Rattle.std.specs.Option.{option_or}
use Rattle.col_types.specs.declared.data_type.DataType.{DataType}
use Rattle.col_types.specs.declared.cast_options.CastOptions.{CastOptions}
use Rattle.col_types.specs.declared.cast_options.CastOptions.TheVariants.{NonStrict}
use Rattle.col_types.specs.declared.operator.BinOp.{BinOp}
use Rattle.col_model.specs.Column.{Column}
use Rattle.col_model.specs.Chunked.{Chunked, column_of}
use Rattle.col_model.specs.OperatorCalls.{binary_of}
use Rattle.col_model.specs.declared.ticks.UnitChange.{UnitChange}
use Rattle.col_model.specs.declared.ticks.UnitChange.TheVariants.{Finer}
use Rattle.col_expr.specs.declared.error.EvalError.{EvalError}
use Rattle.col_expr.specs.declared.node.UnaryOp.{UnaryOp}
use Rattle.col_expr.specs.declared.node.UnaryOp.TheVariants as operations
use Rattle.col_expr.specs.declared.waiting.UnitCast.{UnitCast}
use Rattle.col_expr.specs.declared.waiting.Waiting.{Waiting}
use Rattle.col_expr.specs.Tree.{Tree, Input, Cast, Binary, ScalarRight, ScalarLeft, InUnit, Shift}
use Rattle.col_expr.specs.Tree.{node_count}
use Rattle.col_expr.specs.Node.{over}
use Rattle.col_expr.specs.Numbers.{Numbers, Join, number_at, below, numbers_from}
use Rattle.col_expr.specs.Meaning.{dtype_of, step_count}
use Rattle.col_expr.specs.Refusal.{Unless, GivesBy, refusal_at, first_refusal}
use Rattle.col_expr.specs.Found.{IsFine, numbered}
use Rattle.col_expr.specs.Plan.{Plan}
use Rattle.col_expr.specs.Folded.{Numbered, step_of, goes_on, turns_back, is_type, is_covered}
use Rattle.col_expr.specs.Folded.{cast_operand, under_cast, cast_over, joined_operand}
use Rattle.col_expr.specs.Folded.{fold_cast, folded_by}
use Rattle.col_expr.specs.Waiting.{waiting_dtype, IsLevel, Leads, IsUnitCast, fold_over, IsWaiting}
use Rattle.col_expr.specs.Waiting.{IsReady, IsFolding}
use Rattle.col_expr.proofs.NodeLemmas.{Unless-map}
use Rattle.col_expr.proofs.BinaryLemmas.{found_binary, steps_binary}
use Rattle.col_expr.proofs.FoldFacts.{facts}
use Rattle.col_expr.proofs.FoldSteps.{step_is}
use Rattle.col_expr.proofs.FoldLemmas.{option_or-none, go_on, turn_back}
use Rattle.col_expr.proofs.FoldWaiting.{with_operation, folded_over, fold_as, unfolded, whole_dtype}

-- ---- refusals

-- the first refusal of a folded tree
abbrev refused_as : List Column → EvalError → Numbered → Type 0
refused_as inputs error f = first_refusal inputs f.numbers f.tree ≡ Some error

-- a step is not refused: the first refusal is that of what stands under it
under_refused : (inputs : List Column) (tree : Tree) (ns : Numbers) (s : UnitChange)
    (error : EvalError) → step_of inputs tree ≡ Some s →
    refused_as inputs error (record { tree = tree; numbers = ns }) →
    refused_as inputs error (under_cast (record { tree = tree; numbers = ns }))
under_refused inputs (Cast g b o) ns s error step refused =
    sym (option_or-none (first_refusal inputs (below ns) g))
    ∙ ap (option_or (first_refusal inputs (below ns) g))
    (sym ((step_is (facts inputs g) o b s step).unrefused (number_at ns)))
    ∙ refused
under_refused inputs (Input index) ns s error step refused = cc
under_refused inputs (Binary op l r) ns s error step refused = cc
under_refused inputs (ScalarRight g op k) ns s error step refused = cc
under_refused inputs (ScalarLeft k op g) ns s error step refused = cc
under_refused inputs (InUnit g unit) ns s error step refused = cc
under_refused inputs (Shift g periods) ns s error step refused = cc

join_refused : (inputs : List Column) (f : Numbered) (target : DataType) (options : CastOptions)
    (error : EvalError) (on : Bool) →
    goes_on (step_of inputs f.tree) (step_of inputs (Cast f.tree target options)) ≡ on →
    refused_as inputs error f → refused_as inputs error (if on then under_cast f else f)
join_refused inputs f target options error true h refused =
    let go = go_on (step_of inputs f.tree) (step_of inputs (Cast f.tree target options)) h in
    under_refused inputs f.tree f.numbers go.s error go.first refused
join_refused inputs f target options error false h refused = refused

turn_refused : (inputs : List Column) (node : ℕ) (f : Numbered) (target : DataType)
    (options : CastOptions) (error : EvalError) (turn other : Bool) →
    turns_back (step_of inputs f.tree) (step_of inputs (Cast f.tree target options)) ≡ turn →
    refused_as inputs error f →
    refused_as inputs error (if turn && other then under_cast f
    else cast_over node f target options)
turn_refused inputs node f target options error true true h refused =
    let turn = turn_back (step_of inputs f.tree) (step_of inputs (Cast f.tree target options)) h in
    under_refused inputs f.tree f.numbers (Finer turn.m) error turn.first refused
turn_refused inputs node f target options error true false h refused =
    ap (λ r. option_or r (refusal_at inputs node (Cast f.tree target options))) refused
turn_refused inputs node f target options error false other h refused =
    ap (λ r. option_or r (refusal_at inputs node (Cast f.tree target options))) refused

and_assoc : (a b c : Bool) → (a && b && c) ≡ (a && (b && c))
and_assoc true b c = refl
and_assoc false b c = refl

fold_refused : (inputs : List Column) (plan : Plan) (node : ℕ) (op : UnaryOp) (f : Numbered)
    (error : EvalError) → refused_as inputs error f →
    refused_as inputs error (fold_over inputs plan node op f)
fold_refused inputs plan node (operations.Cast target options) f error refused =
    let g = joined_operand inputs f target options in
    let turn = turns_back (step_of inputs g.tree) (step_of inputs (Cast g.tree target options)) in
    let same = is_type (dtype_of inputs (cast_operand g.tree)) target in
    let covered = is_covered plan (number_at g.numbers) in
    let P : Bool → Type 0 = λ b. refused_as inputs error
    (if b then under_cast g else cast_over node g target options) in
    subst P (sym (and_assoc turn same covered))
    (turn_refused inputs node g target options error turn (same && covered) refl
    (join_refused inputs f target options error
    (goes_on (step_of inputs f.tree) (step_of inputs (Cast f.tree target options))) refl refused))
fold_refused inputs plan node (operations.ScalarRight op k) f error refused =
    ap (λ r. option_or r (refusal_at inputs node (ScalarRight f.tree op k))) refused
fold_refused inputs plan node (operations.ScalarLeft k op) f error refused =
    ap (λ r. option_or r (refusal_at inputs node (ScalarLeft k op f.tree))) refused
fold_refused inputs plan node (operations.InUnit unit) f error refused =
    ap (λ r. option_or r (refusal_at inputs node (InUnit f.tree unit))) refused
fold_refused inputs plan node (operations.Shift periods) f error refused =
    ap (λ r. option_or r (refusal_at inputs node (Shift f.tree periods))) refused

pub over_refused : (inputs : List Column) (plan : Plan) (node : ℕ) (op : UnaryOp) (f : Numbered)
    (error : EvalError) → Unless error (refused_as inputs error f) →
    Unless error (refused_as inputs error (fold_over inputs plan node op f))
over_refused inputs plan node op f error =
    Unless-map error (λ h. fold_refused inputs plan node op f error h)

-- ---- a node over one operand

-- a cast that is folded is the node's operation
pub cast_folds : (inputs : List Column) (plan : Plan) (f : Numbered) (before after : ℕ)
    (w : Waiting) (node : ℕ) (op : UnaryOp) (cast : UnitCast) (answer : Result Waiting EvalError) →
    IsWaiting inputs f before after w → IsUnitCast (waiting_dtype w) node op (Some cast) →
    (Leads (dtype_of inputs f.tree) cast →
    IsFolding inputs (fold_cast inputs plan cast.node f cast.target NonStrict) before after
    answer) →
    IsFolding inputs (fold_over inputs plan node op f) before after answer
cast_folds inputs plan f before after w node op cast answer is unit folds =
    let P : Option DataType → Type 0 = λ dtype. Leads dtype cast in
    let Q : Numbered → Type 0 = λ g. IsFolding inputs g before after answer in
    subst Q (sym (fold_as inputs plan f node op cast unit.0 unit.1))
    (folds (subst P (sym (whole_dtype inputs f before after w is)) unit.2))

-- and an operation that isn't one is done at once
pub operation_folds : (inputs : List Column) (plan : Plan) (f : Numbered)
    (before now after : ℕ) (w : Waiting) (node : ℕ) (op : UnaryOp)
    (answer : Result Waiting EvalError) → IsWaiting inputs f before now w →
    IsUnitCast (waiting_dtype w) node op None →
    (IsLevel (step_of inputs (over op f.tree)) →
    IsFolding inputs (with_operation node op f) before after answer) →
    IsFolding inputs (fold_over inputs plan node op f) before after answer
operation_folds inputs plan f before now after w node op answer is level folds =
    let u = unfolded inputs plan f before now w node op is level in
    let Q : Numbered → Type 0 = λ g. IsFolding inputs g before after answer in
    subst Q (sym u.is) (folds u.level)

under_over : (first : ℕ) (op : UnaryOp) (tree : Tree) →
    below (numbers_from first (over op tree)) ≡ numbers_from first tree
under_over first (operations.Cast target options) tree = refl
under_over first (operations.ScalarRight op k) tree = refl
under_over first (operations.ScalarLeft k op) tree = refl
under_over first (operations.InUnit unit) tree = refl
under_over first (operations.Shift periods) tree = refl

number_over : (first : ℕ) (op : UnaryOp) (tree : Tree) →
    number_at (numbers_from first (over op tree)) ≡ first + node_count tree
number_over first (operations.Cast target options) tree = refl
number_over first (operations.ScalarRight op k) tree = refl
number_over first (operations.ScalarLeft k op) tree = refl
number_over first (operations.InUnit unit) tree = refl
number_over first (operations.Shift periods) tree = refl

-- a folded node whose nodes are numbered from `first` on
pub node_over : (inputs : List Column) (plan : Plan) (first node : ℕ) (op : UnaryOp)
    (tree : Tree) → node ≡ first + node_count tree →
    folded_by inputs plan (numbers_from first (over op tree)) (over op tree)
    ≡ fold_over inputs plan node op (folded_by inputs plan (numbers_from first tree) tree)
node_over inputs plan first node op tree at =
    folded_over inputs plan (numbers_from first (over op tree)) op tree
    ∙ (λ i. fold_over inputs plan ((number_over first op tree ∙ sym at) i) op
    (folded_by inputs plan (under_over first op tree i) tree))

-- a refusal of the operand is that of the node
pub node_refused : (inputs : List Column) (plan : Plan) (first : ℕ) (op : UnaryOp) (tree : Tree)
    (error : EvalError) →
    Unless error (refused_as inputs error
    (folded_by inputs plan (numbers_from first tree) tree)) →
    Unless error (refused_as inputs error
    (folded_by inputs plan (numbers_from first (over op tree)) (over op tree)))
node_refused inputs plan first op tree error =
    Unless-map error (λ h.
    let P : Numbered → Type 0 = λ f. refused_as inputs error f in
    subst P (sym (node_over inputs plan first (first + node_count tree) op tree refl))
    (fold_refused inputs plan (first + node_count tree) op
    (folded_by inputs plan (numbers_from first tree) tree) error h))

-- ---- a node over two operands

pub both_ready : (inputs : List Column) (f g : Numbered) (node : ℕ) (op : BinOp) (c d : Column)
    (before mid last after : ℕ) (answer : Result Chunked EvalError) →
    IsFine inputs f.numbers f.tree c → IsFine inputs g.numbers g.tree d →
    GivesBy column_of answer (numbered node (binary_of op c d)) →
    mid ≡ before + step_count inputs f.tree → last ≡ mid + step_count inputs g.tree →
    IfOk answer (λ found. after ≡ last + length found.column.slots) →
    IsReady inputs
    (record { tree = Binary op f.tree g.tree; numbers = Join node f.numbers g.numbers }) before
    after answer
both_ready inputs f g node op c d before mid last after answer left right gives low second high =
    let numbers = Join node f.numbers g.numbers in
    let found = found_binary inputs numbers op f.tree g.tree c d answer left right gives in
    record {
      found = found;
      counted = steps_binary inputs numbers before mid last after op f.tree g.tree answer found low
          second high;
    }

-- a folded node of two operands whose nodes are numbered from `first` on
pub node_both : (inputs : List Column) (plan : Plan) (first second node : ℕ) (op : BinOp)
    (l r : Tree) (before after : ℕ) (answer : Result Waiting EvalError) →
    second ≡ first + node_count l → node ≡ second + node_count r →
    IsFolding inputs (record {
      tree = Binary op (folded_by inputs plan (numbers_from first l) l).tree
          (folded_by inputs plan (numbers_from second r) r).tree;
      numbers = Join node (folded_by inputs plan (numbers_from first l) l).numbers
          (folded_by inputs plan (numbers_from second r) r).numbers;
    }) before after answer →
    IsFolding inputs (folded_by inputs plan (numbers_from first (Binary op l r)) (Binary op l r))
    before after answer
node_both inputs plan first second node op l r before after answer next at is =
    let P : ℕ → Type 0 = λ second. IsFolding inputs (record {
      tree = Binary op (folded_by inputs plan (numbers_from first l) l).tree
          (folded_by inputs plan (numbers_from second r) r).tree;
      numbers = Join (second + node_count r)
          (folded_by inputs plan (numbers_from first l) l).numbers
          (folded_by inputs plan (numbers_from second r) r).numbers;
    }) before after answer in
    let Q : ℕ → Type 0 = λ node. IsFolding inputs (record {
      tree = Binary op (folded_by inputs plan (numbers_from first l) l).tree
          (folded_by inputs plan (numbers_from second r) r).tree;
      numbers = Join node (folded_by inputs plan (numbers_from first l) l).numbers
          (folded_by inputs plan (numbers_from second r) r).numbers;
    }) before after answer in
    subst P next (subst Q at is)

-- what holds whatever the result is holds where it is no refusal
pub on_ok-always : {T E : Type 0} (P : Type 0) (r : Result T E) → P → OnOk r P
on_ok-always P (Ok x) p = p
on_ok-always P (Err e) p = tt
