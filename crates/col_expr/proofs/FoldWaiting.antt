-- Columns over which casts wait: done, joined and taken away.
use Rattle.std.proofs.Common.{◌≡◌, ℕ, ◌+◌, Bool, true, false, ◌&&◌, List, [], length, Option, Some}
use Rattle.std.proofs.Common.{None, Result, Ok, Err, IfOk, inl, inr, refl, sym, ap, ◌∙◌}
use Rattle.std.proofs.Common.{subst}
use Rattle.std.specs.Prelude.{if◌then◌else◌, unwrap_or}
use Rattle.std.specs.List.{All}
use Rattle.col_types.specs.DataType.{same_type}
use Rattle.col_types.specs.declared.data_type.DataType.{DataType, Boolean}
use Rattle.col_types.specs.declared.cast_options.CastOptions.TheVariants.{NonStrict}
use Rattle.col_model.specs.Column.{Column, IsValidColumn}
use Rattle.col_model.specs.Chunked.{Chunked, column_of}
use Rattle.col_model.specs.declared.ticks.UnitChange.{UnitChange}
use Rattle.col_model.specs.declared.ticks.UnitChange.TheVariants.{Finer, Same, Coarser}
use Rattle.col_model.specs.ColumnCalls.{unless_refused}
use Rattle.col_expr.specs.declared.error.EvalError.{EvalError}
use Rattle.col_expr.specs.declared.node.UnaryOp.{UnaryOp}
use Rattle.col_expr.specs.declared.node.UnaryOp.TheVariants as operations
use Rattle.col_expr.specs.declared.waiting.Way.{Way}
use Rattle.col_expr.specs.declared.waiting.UnitCast.{UnitCast}
use Rattle.col_expr.specs.declared.waiting.Waiting.{Waiting}
use Rattle.col_expr.specs.declared.waiting.Waiting.TheVariants as waitings
use Rattle.col_expr.specs.Tree.{Tree, Cast}
use Rattle.col_expr.specs.Node.{over}
use Rattle.col_expr.specs.Numbers.{Numbers, Over, number_at, below}
use Rattle.col_expr.specs.Built.{is_built_tree}
use Rattle.col_expr.specs.Meaning.{dtype_of, step_count, result_column}
use Rattle.col_expr.specs.Refusal.{GivesBy, outcome_by, outcome}
use Rattle.col_expr.specs.Found.{IsColumnOf, IsFine, IsFound, unary_at}
use Rattle.col_expr.specs.Plan.{Plan}
use Rattle.col_expr.specs.Folded.{Numbered, step_of, goes_on, turns_back, is_type, is_covered}
use Rattle.col_expr.specs.Folded.{cast_operand, under_cast, cast_over, joined_operand, turned_cast}
use Rattle.col_expr.specs.Folded.{fold_cast, folded_by, folded}
use Rattle.col_expr.specs.Waiting.{way_of, same_way, there_and_back, waiting_dtype, under_last}
use Rattle.col_expr.specs.Waiting.{last_turns_back, joined_waiting, IsLevel, Leads, operation_step}
use Rattle.col_expr.specs.Waiting.{fold_over, IsWaiting, IsReady}
use Rattle.col_expr.proofs.NodeLemmas.{Unless-map, slots_of-is}
use Rattle.col_expr.proofs.UnaryLemmas.{found_unary, refused_below, steps_unary}
use Rattle.col_expr.proofs.FoldFacts.{Facts, facts}
use Rattle.col_expr.proofs.FoldSteps.{OneWay, goes_on-parts, some_is, step_is, step_told}
use Rattle.col_expr.proofs.FoldSteps.{joined_step}
use Rattle.col_expr.proofs.FoldLemmas.{folding_good}
use Rattle.col_expr.proofs.PlanKeptLemmas.{valid_plans_are_kept}

-- ---- what is done

-- a folded tree with an operation of this number over it
abbrev pub with_operation : ℕ → UnaryOp → Numbered → Numbered
with_operation node operation folded =
    record { tree = over operation folded.tree; numbers = Over node folded.numbers }

-- an operation is done over a column that is there
pub operation_ready : (inputs : List Column) (folded : Numbered) (node : ℕ) (op : UnaryOp)
    (c : Column) (before mid after : ℕ) (answer : Result Chunked EvalError) →
    IsFine inputs folded.numbers folded.tree c →
    GivesBy column_of answer (unary_at node op c) →
    mid ≡ before + step_count inputs folded.tree →
    IfOk answer (λ found. after ≡ mid + length found.column.slots) →
    IsReady inputs (with_operation node op folded) before after answer
operation_ready inputs folded node op c before mid after answer fine gives low high =
    let numbers = Over node folded.numbers in
    let found = found_unary inputs numbers op folded.tree c answer fine gives in
    record {
      found = found;
      counted = steps_unary inputs numbers before mid after op folded.tree answer found low high;
    }

-- a refusal under an operation is that of the whole
pub operation_refused : (inputs : List Column) (folded : Numbered) (node : ℕ) (op : UnaryOp)
    (error : EvalError) → IsFound inputs folded.numbers folded.tree (Err error) →
    IsFound inputs (Over node folded.numbers) (over op folded.tree) (Err error)
operation_refused inputs folded node op error found =
    refused_below inputs (Over node folded.numbers) op folded.tree error found

-- ---- the answer for the folded tree is that for the whole one

column_is_result : (inputs : List Column) (t : Tree) (c : Column) → IsColumnOf inputs t c →
    result_column inputs t ≡ c
column_is_result inputs t c is = λ i. record {
  name = unwrap_or (is.named i) [];
  dtype = unwrap_or (is.typed i) Boolean;
  slots = slots_of-is inputs t c is i;
  flag = sym is.flagged i;
}

found_outcome : (inputs : List Column) (numbers : Numbers) (t : Tree)
    (answer : Result Chunked EvalError) → IsFound inputs numbers t answer →
    GivesBy column_of answer (outcome_by inputs numbers t)
found_outcome inputs numbers t (Ok c) found =
    λ i. unless_refused (found.fine i) (column_is_result inputs t (column_of c) found.column_is i)
found_outcome inputs numbers t (Err error) found =
    Unless-map error (λ h. ap (λ refused. unless_refused refused (result_column inputs t)) h) found

pub folded_outcome : (inputs : List Column) (plan : Plan) (tree : Tree)
    (answer : Result Chunked EvalError) → All IsValidColumn inputs → is_built_tree tree ≡ true →
    IsFound inputs (folded inputs plan tree).numbers (folded inputs plan tree).tree answer →
    GivesBy column_of answer (outcome inputs tree)
folded_outcome inputs plan tree answer columns built found =
    subst (GivesBy column_of answer)
    (folding_good valid_plans_are_kept inputs plan tree columns built)
    (found_outcome inputs (folded inputs plan tree).numbers (folded inputs plan tree).tree answer
    found)

-- ---- casts that wait

-- the type of a cast that leads its way is its target
leads_dtype : (inputs : List Column) (tree : Tree) (cast : UnitCast) →
    Leads (dtype_of inputs tree) cast →
    dtype_of inputs (Cast tree cast.target NonStrict) ≡ Some cast.target
leads_dtype inputs tree cast leads =
    ap (λ (f : Facts). f.dtype)
    (step_is (facts inputs tree) NonStrict cast.target leads.0 leads.1).column

pub whole_dtype : (inputs : List Column) (f : Numbered) (before after : ℕ) (w : Waiting) →
    IsWaiting inputs f before after w → dtype_of inputs f.tree ≡ Some (waiting_dtype w)
whole_dtype inputs f before after (waitings.Column column) is = is.fine.column_is.typed
whole_dtype inputs f before after (waitings.Cast' place below cast) is =
    ap (λ (g : Numbered). dtype_of inputs g.tree) is.1 ∙ leads_dtype inputs is.0.tree cast is.2

-- ---- the ways of two casts

ways_on : (s t : UnitChange) (v w : Way) → way_of s ≡ Some v → way_of t ≡ Some w →
    goes_on (Some s) (Some t) ≡ same_way v w
ways_on (Finer m) (Finer n) v w h k = rw (sym (some_is _ _ h), sym (some_is _ _ k)) refl
ways_on (Finer m) (Coarser n) v w h k = rw (sym (some_is _ _ h), sym (some_is _ _ k)) refl
ways_on (Coarser m) (Finer n) v w h k = rw (sym (some_is _ _ h), sym (some_is _ _ k)) refl
ways_on (Coarser m) (Coarser n) v w h k = rw (sym (some_is _ _ h), sym (some_is _ _ k)) refl
ways_on Same t v w h k = cc
ways_on (Finer m) Same v w h k = cc
ways_on (Coarser m) Same v w h k = cc

ways_back : (s t : UnitChange) (v w : Way) → way_of s ≡ Some v → way_of t ≡ Some w →
    turns_back (Some s) (Some t) ≡ there_and_back v w
ways_back (Finer m) (Finer n) v w h k = rw (sym (some_is _ _ h), sym (some_is _ _ k)) refl
ways_back (Finer m) (Coarser n) v w h k = rw (sym (some_is _ _ h), sym (some_is _ _ k)) refl
ways_back (Coarser m) (Finer n) v w h k = rw (sym (some_is _ _ h), sym (some_is _ _ k)) refl
ways_back (Coarser m) (Coarser n) v w h k = rw (sym (some_is _ _ h), sym (some_is _ _ k)) refl
ways_back Same t v w h k = cc
ways_back (Finer m) Same v w h k = cc
ways_back (Coarser m) Same v w h k = cc

one_way : (s t : UnitChange) → OneWay s t → way_of s ≡ way_of t
one_way s t (inl way) = ap way_of way.2 ∙ sym (ap way_of way.3)
one_way s t (inr way) = ap way_of way.2 ∙ sym (ap way_of way.3)

-- a cast over one that goes its way leads its way from what that one stands over
leads_on : (inputs : List Column) (g : Numbered) (last cast : UnitCast) →
    Leads (dtype_of inputs g.tree) last →
    Leads (dtype_of inputs (Cast g.tree last.target NonStrict)) cast →
    same_way last.way cast.way ≡ true → Leads (dtype_of inputs g.tree) cast
leads_on inputs g last cast one two same =
    let f = facts inputs g.tree in
    let way = goes_on-parts one.0 two.0
    (ways_on one.0 two.0 last.way cast.way one.2 two.2 ∙ same) in
    let j = joined_step f NonStrict NonStrict last.target cast.target one.0 two.0
    (step_is f NonStrict last.target one.0 one.1)
    (step_is (facts inputs (Cast g.tree last.target NonStrict)) NonStrict cast.target two.0
    two.1)
    way in (
      j.step,
      step_told f NonStrict cast.target j.step j.is_step,
      sym (one_way one.0 j.step j.way) ∙ one_way one.0 two.0 way ∙ two.2,
    )

-- ---- steps that neither go on nor turn back

abbrev Apart : Option UnitChange → Option UnitChange → Type 0
Apart p q = (goes_on p q ≡ false) × (turns_back p q ≡ false)

level_first : (p q : Option UnitChange) → IsLevel p → Apart p q
level_first None q level = (refl, refl)
level_first (Some (Finer m)) q level = cc (level (Finer m) refl)
level_first (Some Same) q level = (refl, refl)
level_first (Some (Coarser m)) q level = cc (level (Coarser m) refl)

level_second : (p q : Option UnitChange) → IsLevel q → Apart p q
level_second None q level = (refl, refl)
level_second (Some Same) q level = (refl, refl)
level_second (Some (Finer m)) None level = (refl, refl)
level_second (Some (Finer m)) (Some Same) level = (refl, refl)
level_second (Some (Finer m)) (Some (Finer n)) level = cc (level (Finer n) refl)
level_second (Some (Finer m)) (Some (Coarser n)) level = cc (level (Coarser n) refl)
level_second (Some (Coarser m)) None level = (refl, refl)
level_second (Some (Coarser m)) (Some Same) level = (refl, refl)
level_second (Some (Coarser m)) (Some (Finer n)) level = cc (level (Finer n) refl)
level_second (Some (Coarser m)) (Some (Coarser n)) level = cc (level (Coarser n) refl)

-- ---- a cast over what waits

-- what is joined, with the casts that wait there
record IsJoined (inputs : List Column) (f : Numbered) (before after : ℕ) (w : Waiting)
    (cast : UnitCast) : Type 0 where
  waits : IsWaiting inputs (joined_operand inputs f cast.target NonStrict) before after
      (joined_waiting w cast)
  leads : Leads (dtype_of inputs (joined_operand inputs f cast.target NonStrict).tree) cast

joined_by : (inputs : List Column) (f g : Numbered) (before after : ℕ) (w v : Waiting)
    (cast : UnitCast) → joined_operand inputs f cast.target NonStrict ≡ g →
    joined_waiting w cast ≡ v → IsWaiting inputs g before after v →
    Leads (dtype_of inputs g.tree) cast → IsJoined inputs f before after w cast
joined_by inputs f g before after w v cast is joined waits leads =
    let P : Waiting → Type 0 = λ v. IsWaiting inputs g before after v in
    let Q : Numbered → Type 0 = λ g. IsWaiting inputs g before after (joined_waiting w cast) in
    let R : Numbered → Type 0 = λ g. Leads (dtype_of inputs g.tree) cast in
    record { waits = subst Q (sym is) (subst P (sym joined) waits); leads = subst R (sym is) leads }

-- what is joined, by whether both casts go on
joined_is : (inputs : List Column) (f : Numbered) (target : DataType) (on : Bool) →
    goes_on (step_of inputs f.tree) (step_of inputs (Cast f.tree target NonStrict)) ≡ on →
    joined_operand inputs f target NonStrict ≡ (if on then under_cast f else f)
joined_is inputs f target on h = ap (λ b. if b then under_cast f else f) h

-- a cast over one that waits
join_over : (inputs : List Column) (g : Numbered) (before after : ℕ) (w below : Waiting)
    (last cast : UnitCast) (on : Bool) → Leads (dtype_of inputs g.tree) last →
    IsWaiting inputs g before after below →
    IsWaiting inputs (cast_over last.node g last.target NonStrict) before after w →
    Leads (dtype_of inputs (Cast g.tree last.target NonStrict)) cast →
    same_way last.way cast.way ≡ on →
    joined_waiting w cast ≡ (if same_way last.way cast.way then below else w) →
    IsJoined inputs (cast_over last.node g last.target NonStrict) before after w cast
join_over inputs g before after w below last cast true one is whole two same joined =
    joined_by inputs (cast_over last.node g last.target NonStrict) g before after w below cast
    (joined_is inputs (cast_over last.node g last.target NonStrict) cast.target true
    ((λ i. goes_on (one.1 i) (two.1 i)) ∙ ways_on one.0 two.0 last.way cast.way one.2 two.2 ∙ same))
    (joined ∙ ap (λ b. if b then below else w) same) is
    (leads_on inputs g last cast one two same)
join_over inputs g before after w below last cast false one is whole two same joined =
    joined_by inputs (cast_over last.node g last.target NonStrict)
    (cast_over last.node g last.target NonStrict) before after w w cast
    (joined_is inputs (cast_over last.node g last.target NonStrict) cast.target false
    ((λ i. goes_on (one.1 i) (two.1 i)) ∙ ways_on one.0 two.0 last.way cast.way one.2 two.2 ∙ same))
    (joined ∙ ap (λ b. if b then below else w) same) whole two

join_waiting : (inputs : List Column) (f : Numbered) (before after : ℕ) (w : Waiting)
    (cast : UnitCast) → IsWaiting inputs f before after w →
    Leads (dtype_of inputs f.tree) cast → IsJoined inputs f before after w cast
join_waiting inputs f before after (waitings.Column column) cast is leads =
    joined_by inputs f f before after (waitings.Column column) (waitings.Column column) cast
    (joined_is inputs f cast.target false
    (level_first (step_of inputs f.tree) (step_of inputs (Cast f.tree cast.target NonStrict))
    is.level).0) refl is leads
join_waiting inputs f before after (waitings.Cast' place below last) cast is leads =
    let w = waitings.Cast' place below last in
    let P : Numbered → Type 0 = λ f. IsJoined inputs f before after w cast in
    let Q : Numbered → Type 0 = λ f. Leads (dtype_of inputs f.tree) cast in
    subst P (sym is.1)
    (join_over inputs is.0 before after w below last cast (same_way last.way cast.way) is.2 is.3
    (is.0, refl, is.2, is.3) (subst Q is.1 leads) refl refl)

-- a cast that is turned, by the test of the code
turned_is : (inputs : List Column) (plan : Plan) (f : Numbered) (cast : UnitCast) (back : Bool) →
    (turns_back (step_of inputs f.tree) (step_of inputs (Cast f.tree cast.target NonStrict))
    && is_type (dtype_of inputs (cast_operand f.tree)) cast.target
    && is_covered plan (number_at f.numbers)) ≡ back →
    turned_cast inputs plan cast.node f cast.target NonStrict
    ≡ (if back then under_cast f else cast_over cast.node f cast.target NonStrict)
turned_is inputs plan f cast back h =
    ap (λ b. if b then under_cast f else cast_over cast.node f cast.target NonStrict) h

turn_over : (inputs : List Column) (plan : Plan) (g : Numbered) (before after : ℕ)
    (below : Waiting) (last cast : UnitCast) (back : Bool) →
    Leads (dtype_of inputs g.tree) last → IsWaiting inputs g before after below →
    Leads (dtype_of inputs (Cast g.tree last.target NonStrict)) cast →
    (there_and_back last.way cast.way && same_type (waiting_dtype below) cast.target
    && is_covered plan last.node) ≡ back →
    turned_cast inputs plan cast.node (cast_over last.node g last.target NonStrict) cast.target
    NonStrict
    ≡ (if back then g
    else cast_over cast.node (cast_over last.node g last.target NonStrict) cast.target NonStrict)
turn_over inputs plan g before after below last cast back one is two h =
    let typed = whole_dtype inputs g before after below is in
    turned_is inputs plan (cast_over last.node g last.target NonStrict) cast back
    ((λ i. turns_back (one.1 i) (two.1 i) && is_type (dtype_of inputs g.tree) cast.target
    && is_covered plan last.node)
    ∙ (λ i. ways_back one.0 two.0 last.way cast.way one.2 two.2 i && is_type (typed i) cast.target
    && is_covered plan last.node)
    ∙ h)

-- a cast that turns back the last one leaves what stands under that one
pub back_waiting : (inputs : List Column) (plan : Plan) (f : Numbered) (before after : ℕ)
    (w : Waiting) (cast : UnitCast) → IsWaiting inputs f before after w →
    Leads (dtype_of inputs f.tree) cast → last_turns_back plan w cast ≡ true →
    IsWaiting inputs (turned_cast inputs plan cast.node f cast.target NonStrict) before after
    (under_last w)
back_waiting inputs plan f before after (waitings.Column column) cast is leads back = cc
back_waiting inputs plan f before after (waitings.Cast' place below last) cast is leads back =
    let P : Numbered → Type 0 = λ g. IsWaiting inputs g before after below in
    let Q : Numbered → Type 0 = λ f. Leads (dtype_of inputs f.tree) cast in
    subst P
    (sym (ap (λ f. turned_cast inputs plan cast.node f cast.target NonStrict) is.1
    ∙ turn_over inputs plan is.0 before after below last cast true is.2 is.3 (subst Q is.1 leads)
    back))
    is.3

-- another cast waits over what waits there
turn_not : (inputs : List Column) (plan : Plan) (f : Numbered) (before after : ℕ) (w : Waiting)
    (cast : UnitCast) → IsWaiting inputs f before after w →
    Leads (dtype_of inputs f.tree) cast → last_turns_back plan w cast ≡ false →
    turned_cast inputs plan cast.node f cast.target NonStrict
    ≡ cast_over cast.node f cast.target NonStrict
turn_not inputs plan f before after (waitings.Column column) cast is leads back =
    turned_is inputs plan f cast false
    (ap (λ b. b && is_type (dtype_of inputs (cast_operand f.tree)) cast.target
    && is_covered plan (number_at f.numbers))
    (level_first (step_of inputs f.tree) (step_of inputs (Cast f.tree cast.target NonStrict))
    is.level).1)
turn_not inputs plan f before after (waitings.Cast' place below last) cast is leads back =
    let Q : Numbered → Type 0 = λ f. Leads (dtype_of inputs f.tree) cast in
    ap (λ f. turned_cast inputs plan cast.node f cast.target NonStrict) is.1
    ∙ turn_over inputs plan is.0 before after below last cast false is.2 is.3 (subst Q is.1 leads)
    back
    ∙ ap (λ f. cast_over cast.node f cast.target NonStrict) (sym is.1)

-- what a cast over those that wait is once it is joined: left out with the last one
pub fold_back : (inputs : List Column) (plan : Plan) (f : Numbered) (before after : ℕ)
    (w : Waiting) (cast : UnitCast) → IsWaiting inputs f before after w →
    Leads (dtype_of inputs f.tree) cast →
    last_turns_back plan (joined_waiting w cast) cast ≡ true →
    IsWaiting inputs (fold_cast inputs plan cast.node f cast.target NonStrict) before after
    (under_last (joined_waiting w cast))
fold_back inputs plan f before after w cast is leads back =
    let j = join_waiting inputs f before after w cast is leads in
    back_waiting inputs plan (joined_operand inputs f cast.target NonStrict) before after
    (joined_waiting w cast) cast j.waits j.leads back

-- or waiting too
pub fold_over_it : (inputs : List Column) (plan : Plan) (f : Numbered) (before after : ℕ)
    (w : Waiting) (cast : UnitCast) → IsWaiting inputs f before after w →
    Leads (dtype_of inputs f.tree) cast →
    last_turns_back plan (joined_waiting w cast) cast ≡ false →
    (g : Numbered)
    × (fold_cast inputs plan cast.node f cast.target NonStrict
    ≡ cast_over cast.node g cast.target NonStrict)
    × Leads (dtype_of inputs g.tree) cast × IsWaiting inputs g before after (joined_waiting w cast)
fold_over_it inputs plan f before after w cast is leads back =
    let j = join_waiting inputs f before after w cast is leads in
    let g = joined_operand inputs f cast.target NonStrict in (
      g,
      turn_not inputs plan g before after (joined_waiting w cast) cast j.waits j.leads back,
      j.leads,
      j.waits,
    )

-- ---- an operation over which nothing waits

pub step_over : (inputs : List Column) (op : UnaryOp) (tree : Tree) →
    step_of inputs (over op tree) ≡ operation_step (dtype_of inputs tree) op
step_over inputs (operations.Cast target options) tree = refl
step_over inputs (operations.ScalarRight op k) tree = refl
step_over inputs (operations.ScalarLeft k op) tree = refl
step_over inputs (operations.InUnit unit) tree = refl
step_over inputs (operations.Shift periods) tree = refl

-- an operation that leads to no other unit is not folded
fold_level : (inputs : List Column) (plan : Plan) (node : ℕ) (op : UnaryOp) (f : Numbered) →
    IsLevel (step_of inputs (over op f.tree)) →
    fold_over inputs plan node op f ≡ with_operation node op f
fold_level inputs plan node (operations.Cast target options) f level =
    let apart = level_second (step_of inputs f.tree) (step_of inputs (Cast f.tree target options))
    level in
    ap (λ b. turned_cast inputs plan node (if b then under_cast f else f) target options) apart.0
    ∙ ap (λ b. if b && is_type (dtype_of inputs (cast_operand f.tree)) target
    && is_covered plan (number_at f.numbers) then under_cast f else cast_over node f target options)
    apart.1
fold_level inputs plan node (operations.ScalarRight op k) f level = refl
fold_level inputs plan node (operations.ScalarLeft k op) f level = refl
fold_level inputs plan node (operations.InUnit unit) f level = refl
fold_level inputs plan node (operations.Shift periods) f level = refl

-- what there is of an operation that is not folded
pub record IsUnfolded (inputs : List Column) (plan : Plan) (node : ℕ) (op : UnaryOp)
    (f : Numbered) : Type 0 where
  pub is : fold_over inputs plan node op f ≡ with_operation node op f
  pub level : IsLevel (step_of inputs (over op f.tree))

pub unfolded : (inputs : List Column) (plan : Plan) (f : Numbered) (before after : ℕ)
    (w : Waiting) (node : ℕ) (op : UnaryOp) → IsWaiting inputs f before after w →
    IsLevel (operation_step (Some (waiting_dtype w)) op) → IsUnfolded inputs plan node op f
unfolded inputs plan f before after w node op is level =
    let same : operation_step (Some (waiting_dtype w)) op ≡ step_of inputs (over op f.tree) =
    sym (step_over inputs op f.tree
    ∙ ap (λ dtype. operation_step dtype op) (whole_dtype inputs f before after w is)) in
    let kept = subst IsLevel same level in
    record { is = fold_level inputs plan node op f kept; level = kept }

-- a cast that is folded, as the operation of its node
pub fold_as : (inputs : List Column) (plan : Plan) (f : Numbered) (node : ℕ) (op : UnaryOp)
    (cast : UnitCast) → op ≡ operations.Cast cast.target NonStrict → node ≡ cast.node →
    fold_over inputs plan node op f
    ≡ fold_cast inputs plan cast.node f cast.target NonStrict
fold_as inputs plan f node op cast is at = λ i. fold_over inputs plan (at i) (is i) f

-- a node over its folded operand
pub folded_over : (inputs : List Column) (plan : Plan) (numbers : Numbers) (op : UnaryOp)
    (tree : Tree) →
    folded_by inputs plan numbers (over op tree)
    ≡ fold_over inputs plan (number_at numbers) op (folded_by inputs plan (below numbers) tree)
folded_over inputs plan numbers (operations.Cast target options) tree = refl
folded_over inputs plan numbers (operations.ScalarRight op k) tree = refl
folded_over inputs plan numbers (operations.ScalarLeft k op) tree = refl
folded_over inputs plan numbers (operations.InUnit unit) tree = refl
folded_over inputs plan numbers (operations.Shift periods) tree = refl
