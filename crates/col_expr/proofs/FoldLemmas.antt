-- Folding changes no column and no refusal: an induction on the tree.
use Rattle.std.proofs.Common.{◌≡◌, ℕ, Bool, true, false, ◌&&◌, List, [], ◌∷◌, ◌++◌, Option, Some}
use Rattle.std.proofs.Common.{None, refl, sym, ap, ◌∙◌, subst}
use Rattle.std.specs.Prelude.{if◌then◌else◌}
use Rattle.std.specs.Option.{option_or}
use Rattle.std.specs.List.{All}
use Rattle.std.proofs.lemmas.Bool.{and_parts}
use Rattle.col_types.specs.declared.data_type.DataType.{DataType}
use Rattle.col_types.specs.declared.cast_options.CastOptions.{CastOptions}
use Rattle.col_model.specs.Value.{Value}
use Rattle.col_model.specs.Column.{Column, IsValidColumn}
use Rattle.col_model.specs.ColumnCalls.{unless_refused}
use Rattle.col_model.specs.declared.ticks.UnitChange.{UnitChange}
use Rattle.col_model.specs.declared.ticks.UnitChange.TheVariants.{Finer, Same, Coarser}
use Rattle.col_expr.specs.declared.error.EvalError.{EvalError}
use Rattle.col_expr.specs.Tree.{Tree, Input, Cast, Binary, ScalarRight, ScalarLeft, InUnit, Shift}
use Rattle.col_expr.specs.Tree.{node_count}
use Rattle.col_expr.specs.Numbers.{Numbers, Over, number_at, below, left_of, right_of, numbers_from}
use Rattle.col_expr.specs.Built.{is_built_tree}
use Rattle.col_expr.specs.Meaning.{dtype_of, slot_at}
use Rattle.col_expr.specs.Refusal.{first_refusal}
use Rattle.col_expr.specs.Plan.{Plan, rule_holds, rules_hold, ends_before, is_plan_valid}
use Rattle.col_expr.specs.PlanLaws.{IsKeptBy, numbered_nodes, ValidPlansAreKept}
use Rattle.col_expr.specs.Folded.{step_of, goes_on, turns_back, Numbered}
use Rattle.col_expr.specs.Folded.{cast_operand, under_cast, cast_over, is_type, is_covered}
use Rattle.col_expr.specs.Folded.{joined_operand, fold_cast, folded_by, plan_if, folded}
use Rattle.col_expr.specs.FoldLaws.{FoldingChangesNoAnswer}
use Rattle.col_expr.proofs.FoldFacts.{Facts, facts, same_cast, same_binary, same_right}
use Rattle.col_expr.proofs.FoldFacts.{same_left, same_unit_change, same_shift, refused_cast}
use Rattle.col_expr.proofs.FoldFacts.{refused_binary, refused_right, refused_left}
use Rattle.col_expr.proofs.FoldFacts.{refused_unit_change, same_column}
use Rattle.col_expr.proofs.FoldSteps.{OneWay, goes_on-parts, both_finer, finer_first, some_is}
use Rattle.col_expr.proofs.FoldSteps.{IsStep, step_is, step_told, joined_step}
use Rattle.col_expr.proofs.FoldTurns.{turned_back, covered_below, covered_keeps, All-left}
use Rattle.col_expr.proofs.FoldTurns.{All-right, All-last}

-- ---- what a plan says of a part of a tree

-- its rules hold in the part, and it is kept there
pub record IsTrusted (inputs : List Column) (plan : Plan) (numbers : Numbers) (tree : Tree) :
    Type 0 where
  pub rules : rules_hold inputs plan numbers tree ≡ true
  pub kept : All (IsKeptBy inputs plan) (numbered_nodes numbers tree)

-- of a node over one operand
record TrustedOver (inputs : List Column) (plan : Plan) (numbers : Numbers) (e tree : Tree) :
    Type 0 where
  under : IsTrusted inputs plan (below numbers) e
  holds : rule_holds inputs plan numbers tree ≡ true
  keeps : IsKeptBy inputs plan (numbers, tree)

trusted_over : (inputs : List Column) (plan : Plan) (numbers : Numbers) (e tree : Tree) →
    (rules_hold inputs plan (below numbers) e && rule_holds inputs plan numbers tree) ≡ true →
    All (IsKeptBy inputs plan) (numbered_nodes (below numbers) e ++ (numbers, tree) ∷ []) →
    TrustedOver inputs plan numbers e tree
trusted_over inputs plan numbers e tree rules kept =
    let both = and_parts (rules_hold inputs plan (below numbers) e)
    (rule_holds inputs plan numbers tree) rules in
    record {
      under = record {
        rules = both.0;
        kept = All-left (IsKeptBy inputs plan) (numbered_nodes (below numbers) e)
            ((numbers, tree) ∷ []) kept;
      };
      holds = both.1;
      keeps = All-last (IsKeptBy inputs plan) (numbered_nodes (below numbers) e) (numbers, tree)
          kept;
    }

-- of a node over two operands
record TrustedBoth (inputs : List Column) (plan : Plan) (numbers : Numbers) (l r : Tree) :
    Type 0 where
  left : IsTrusted inputs plan (left_of numbers) l
  right : IsTrusted inputs plan (right_of numbers) r

trusted_both : (inputs : List Column) (plan : Plan) (numbers : Numbers) (l r tree : Tree) →
    (rules_hold inputs plan (left_of numbers) l
    && (rules_hold inputs plan (right_of numbers) r && rule_holds inputs plan numbers tree))
    ≡ true →
    All (IsKeptBy inputs plan) (numbered_nodes (left_of numbers) l
    ++ (numbered_nodes (right_of numbers) r ++ (numbers, tree) ∷ [])) →
    TrustedBoth inputs plan numbers l r
trusted_both inputs plan numbers l r tree rules kept =
    let P = IsKeptBy inputs plan in
    let first = numbered_nodes (left_of numbers) l in
    let second = numbered_nodes (right_of numbers) r in
    let both = and_parts (rules_hold inputs plan (left_of numbers) l)
    (rules_hold inputs plan (right_of numbers) r && rule_holds inputs plan numbers tree)
    rules in
    record {
      left = record {
        rules = both.0;
        kept = All-left P first (second ++ (numbers, tree) ∷ []) kept;
      };
      right = record {
        rules = (and_parts (rules_hold inputs plan (right_of numbers) r)
            (rule_holds inputs plan numbers tree) both.1).0;
        kept = All-left P second ((numbers, tree) ∷ [])
            (All-right P first (second ++ (numbers, tree) ∷ []) kept);
      };
    }

-- ---- the invariant

abbrev NotFiner : List Column → Tree → Type 0
NotFiner inputs tree = (m : ℕ) → step_of inputs tree ≡ Some (Finer m) → ⊥

-- a step to a finer unit stands over no other, and loses no slot where it is covered
record FinerStep (inputs : List Column) (plan : Plan) (number : ℕ) (g tree : Tree) : Type 0 where
  alone : NotFiner inputs g
  lossless : is_covered plan number ≡ true → (row : ℕ) (x : Value) →
      slot_at inputs g row ≡ Some x → (y : Value) × (slot_at inputs tree row ≡ Some y)

-- the same of each step in the chain of casts at the root
abbrev Careful : List Column → Plan → Numbers → Tree → Type 0
Careful inputs plan numbers (Cast g d o) =
    ((m : ℕ) → step_of inputs (Cast g d o) ≡ Some (Finer m) →
    FinerStep inputs plan (number_at numbers) g (Cast g d o))
    × Careful inputs plan (below numbers) g
Careful inputs plan numbers (Input index) = Unit {0}
Careful inputs plan numbers (Binary op l r) = Unit {0}
Careful inputs plan numbers (ScalarRight g op k) = Unit {0}
Careful inputs plan numbers (ScalarLeft k op g) = Unit {0}
Careful inputs plan numbers (InUnit g unit) = Unit {0}
Careful inputs plan numbers (Shift g periods) = Unit {0}

-- a folded tree has the column and the first refusal of the tree; a step to a finer unit at its
-- root has the root's number
pub record IsFoldedAs (inputs : List Column) (plan : Plan) (numbers : Numbers) (f : Numbered)
    (e : Tree) : Type 0 where
  pub same : facts inputs f.tree ≡ facts inputs e
  pub refused : first_refusal inputs f.numbers f.tree ≡ first_refusal inputs numbers e
  careful : Careful inputs plan f.numbers f.tree
  number : (m : ℕ) → step_of inputs f.tree ≡ Some (Finer m) →
      number_at f.numbers ≡ number_at numbers

-- ---- a cast that stands over its operand

stays : (inputs : List Column) (plan : Plan) (numbers : Numbers) (e : Tree) (c : DataType)
    (o : CastOptions) (f : Numbered) → TrustedOver inputs plan numbers e (Cast e c o) →
    IsFoldedAs inputs plan (below numbers) f e →
    ((m : ℕ) → step_of inputs (Cast f.tree c o) ≡ Some (Finer m) → NotFiner inputs f.tree) →
    IsFoldedAs inputs plan numbers (cast_over (number_at numbers) f c o) (Cast e c o)
stays inputs plan numbers e c o f trusted is alone =
    let same = same_cast inputs f.tree e c o is.same in
    record {
      same = same;
      refused = λ i. option_or (is.refused i)
          (refused_cast inputs (number_at numbers) f.tree e c o is.same i);
      careful = (
        (λ m h. record {
          alone = alone m h;
          lossless = λ covered row x there.
              let y = covered_keeps inputs plan numbers e c o trusted.keeps covered row x
              (sym (ap (λ (x : Facts). x.slot row) is.same) ∙ there) in
              (y.0, ap (λ (x : Facts). x.slot row) same ∙ y.1);
        }),
        is.careful,
      );
      number = λ m h. refl;
    }

-- ---- a cast that is joined with its operand

pub option_or-none : (refused : Option EvalError) → option_or refused None ≡ refused
option_or-none None = refl
option_or-none (Some error) = refl

-- two steps are not refused: the first refusal is that of what stands under them
under_steps : (inputs : List Column) (node : ℕ) (ns : Numbers) (g : Tree) (b c : DataType)
    (first o : CastOptions) (s t : UnitChange) → IsStep (facts inputs g) first b s →
    IsStep (facts inputs (Cast g b first)) o c t →
    first_refusal inputs (below ns) g
    ≡ first_refusal inputs (Over node ns) (Cast (Cast g b first) c o)
under_steps inputs node ns g b c first o s t one two =
    sym (option_or-none (first_refusal inputs (below ns) g))
    ∙ ap (option_or (first_refusal inputs (below ns) g)) (sym (one.unrefused (number_at ns)))
    ∙ sym (option_or-none (first_refusal inputs ns (Cast g b first)))
    ∙ ap (option_or (first_refusal inputs ns (Cast g b first))) (sym (two.unrefused node))

joined : (inputs : List Column) (plan : Plan) (numbers ns : Numbers) (e g : Tree)
    (b c : DataType) (first o : CastOptions) (s t : UnitChange) →
    TrustedOver inputs plan numbers e (Cast e c o) →
    IsFoldedAs inputs plan (below numbers) (record { tree = Cast g b first; numbers = ns }) e →
    IsStep (facts inputs g) first b s → IsStep (facts inputs (Cast g b first)) o c t →
    OneWay s t →
    IsFoldedAs inputs plan numbers
    (record { tree = Cast g c o; numbers = Over (number_at numbers) (below ns) }) (Cast e c o)
joined inputs plan numbers ns e g b c first o s t trusted is one two way =
    let j = joined_step (facts inputs g) first o b c s t one two way in
    let same = j.same ∙ same_cast inputs (Cast g b first) e c o is.same in
    record {
      same = same;
      refused = ap (option_or (first_refusal inputs (below ns) g))
          (j.is_step.unrefused (number_at numbers))
          ∙ option_or-none (first_refusal inputs (below ns) g)
          ∙ under_steps inputs (number_at numbers) ns g b c first o s t one two
          ∙ (λ i. option_or (is.refused i)
          (refused_cast inputs (number_at numbers) (Cast g b first) e c o is.same i));
      careful = (
        (λ m h.
            let fine = some_is _ _
            (sym (step_told (facts inputs g) o c j.step j.is_step) ∙ h) in
            let lower = finer_first s j.step m j.way fine in
            let upper = both_finer s t lower.0 way lower.1 in
            let below_is = step_told (facts inputs g) first b s one ∙ ap Some lower.1 in
            let inner = is.careful.0 lower.0 below_is in
            let P : UnitChange → Type 0 = λ u. IsStep (facts inputs (Cast g b first)) o c u in
            let Q : Facts → Type 0 = λ u. IsStep u o c (Finer upper.0) in
            let above : IsStep (facts inputs e) o c (Finer upper.0) =
            subst Q is.same (subst P upper.1 two) in
            record {
              alone = inner.alone;
              lossless = λ covered row x there.
                  let under = covered_below inputs plan numbers e c o upper.0 above trusted.holds
                  covered in
                  let y = inner.lossless
                  (ap (is_covered plan) (is.number lower.0 below_is) ∙ under) row x there in
                  let z = covered_keeps inputs plan numbers e c o trusted.keeps covered row y.0
                  (sym (ap (λ (f : Facts). f.slot row) is.same) ∙ y.1) in
                  (z.0, ap (λ (f : Facts). f.slot row) same ∙ z.1);
            }),
        is.careful.1,
      );
      number = λ m h. refl;
    }

pub record GoOn (p q : Option UnitChange) : Type 0 where
  pub s : UnitChange
  pub t : UnitChange
  pub first : p ≡ Some s
  pub second : q ≡ Some t
  pub way : OneWay s t

pub go_on : (p q : Option UnitChange) → goes_on p q ≡ true → GoOn p q
go_on (Some s) (Some t) h =
    record { s = s; t = t; first = refl; second = refl; way = goes_on-parts s t h }
go_on None q h = cc
go_on (Some (Finer m)) None h = cc
go_on (Some Same) None h = cc
go_on (Some (Coarser m)) None h = cc

not_both : (p q : Option UnitChange) (k m : ℕ) → goes_on p q ≡ false → q ≡ Some (Finer m) →
    p ≡ Some (Finer k) → ⊥
not_both p q k m h second first = cc (rw (first, second) at h)

-- a cast over what it stands over once it is joined
join_by : (inputs : List Column) (plan : Plan) (numbers : Numbers) (e : Tree) (c : DataType)
    (o : CastOptions) (tree : Tree) (ns : Numbers) →
    TrustedOver inputs plan numbers e (Cast e c o) →
    IsFoldedAs inputs plan (below numbers) (record { tree = tree; numbers = ns }) e →
    (on : Bool) → goes_on (step_of inputs tree) (step_of inputs (Cast tree c o)) ≡ on →
    IsFoldedAs inputs plan numbers
    (cast_over (number_at numbers) (if on then under_cast (record { tree = tree; numbers = ns })
    else record { tree = tree; numbers = ns }) c o) (Cast e c o)
join_by inputs plan numbers e c o tree ns trusted is false h =
    stays inputs plan numbers e c o (record { tree = tree; numbers = ns }) trusted is
    (λ m second k first.
    not_both (step_of inputs tree) (step_of inputs (Cast tree c o)) k m h second first)
join_by inputs plan numbers e c o (Cast g b first) ns trusted is true h =
    let go = go_on (step_of inputs (Cast g b first))
    (step_of inputs (Cast (Cast g b first) c o)) h in
    joined inputs plan numbers ns e g b c first o go.s go.t trusted is
    (step_is (facts inputs g) first b go.s go.first)
    (step_is (facts inputs (Cast g b first)) o c go.t go.second) go.way
join_by inputs plan numbers e c o (Input index) ns trusted is true h = cc
join_by inputs plan numbers e c o (Binary op l r) ns trusted is true h = cc
join_by inputs plan numbers e c o (ScalarRight g op k) ns trusted is true h = cc
join_by inputs plan numbers e c o (ScalarLeft k op g) ns trusted is true h = cc
join_by inputs plan numbers e c o (InUnit g unit) ns trusted is true h = cc
join_by inputs plan numbers e c o (Shift g periods) ns trusted is true h = cc

-- ---- a cast that turns back its operand

pub record TurnBack (p q : Option UnitChange) : Type 0 where
  pub m : ℕ
  pub n : ℕ
  pub first : p ≡ Some (Finer m)
  pub second : q ≡ Some (Coarser n)

pub turn_back : (p q : Option UnitChange) → turns_back p q ≡ true → TurnBack p q
turn_back (Some (Finer m)) (Some (Coarser n)) h =
    record { m = m; n = n; first = refl; second = refl }
turn_back p q h = cc

left_out : (inputs : List Column) (plan : Plan) (numbers ns : Numbers) (node : ℕ) (whole g : Tree)
    (b c : DataType) (first o : CastOptions) →
    IsFoldedAs inputs plan numbers
    (record { tree = Cast (Cast g b first) c o; numbers = Over node ns }) whole →
    TurnBack (step_of inputs (Cast g b first)) (step_of inputs (Cast (Cast g b first) c o)) →
    is_type (dtype_of inputs g) c ≡ true → is_covered plan (number_at ns) ≡ true →
    IsFoldedAs inputs plan numbers (record { tree = g; numbers = below ns }) whole
left_out inputs plan numbers ns node whole g b c first o is turn same covered =
    let one = step_is (facts inputs g) first b (Finer turn.m) turn.first in
    let two = step_is (facts inputs (Cast g b first)) o c (Coarser turn.n) turn.second in
    let inner = is.careful.1.0 turn.m turn.first in
    record {
      same = turned_back (facts inputs g) first o b c turn.m turn.n one two same
          (λ row x there. inner.lossless covered row x there) ∙ is.same;
      refused = under_steps inputs node ns g b c first o (Finer turn.m) (Coarser turn.n) one two
          ∙ is.refused;
      careful = is.careful.1.1;
      number = λ k h. absurd (inner.alone k h);
    }

turn_by : (inputs : List Column) (plan : Plan) (numbers : Numbers) (node : ℕ) (whole : Tree)
    (c : DataType) (o : CastOptions) (tree : Tree) (ns : Numbers) →
    IsFoldedAs inputs plan numbers
    (cast_over node (record { tree = tree; numbers = ns }) c o) whole →
    (turn same covered : Bool) →
    turns_back (step_of inputs tree) (step_of inputs (Cast tree c o)) ≡ turn →
    is_type (dtype_of inputs (cast_operand tree)) c ≡ same →
    is_covered plan (number_at ns) ≡ covered →
    IsFoldedAs inputs plan numbers
    (if turn && same && covered then under_cast (record { tree = tree; numbers = ns })
    else cast_over node (record { tree = tree; numbers = ns }) c o) whole
turn_by inputs plan numbers node whole c o tree ns is false same covered ht hs hc = is
turn_by inputs plan numbers node whole c o tree ns is true false covered ht hs hc = is
turn_by inputs plan numbers node whole c o tree ns is true true false ht hs hc = is
turn_by inputs plan numbers node whole c o (Cast g b first) ns is true true true ht hs hc =
    left_out inputs plan numbers ns node whole g b c first o is
    (turn_back (step_of inputs (Cast g b first)) (step_of inputs (Cast (Cast g b first) c o)) ht)
    hs hc
turn_by inputs plan numbers node whole c o (Input index) ns is true true true ht hs hc = cc
turn_by inputs plan numbers node whole c o (Binary op l r) ns is true true true ht hs hc = cc
turn_by inputs plan numbers node whole c o (ScalarRight g op k) ns is true true true ht hs hc = cc
turn_by inputs plan numbers node whole c o (ScalarLeft k op g) ns is true true true ht hs hc = cc
turn_by inputs plan numbers node whole c o (InUnit g unit) ns is true true true ht hs hc = cc
turn_by inputs plan numbers node whole c o (Shift g periods) ns is true true true ht hs hc = cc

-- ---- a cast

cast_good : (inputs : List Column) (plan : Plan) (numbers : Numbers) (e : Tree) (c : DataType)
    (o : CastOptions) (f : Numbered) → TrustedOver inputs plan numbers e (Cast e c o) →
    IsFoldedAs inputs plan (below numbers) f e →
    IsFoldedAs inputs plan numbers (fold_cast inputs plan (number_at numbers) f c o) (Cast e c o)
cast_good inputs plan numbers e c o f trusted is =
    let inner = joined_operand inputs f c o in
    turn_by inputs plan numbers (number_at numbers) (Cast e c o) c o inner.tree inner.numbers
    (join_by inputs plan numbers e c o f.tree f.numbers trusted is
    (goes_on (step_of inputs f.tree) (step_of inputs (Cast f.tree c o))) refl)
    (turns_back (step_of inputs inner.tree) (step_of inputs (Cast inner.tree c o)))
    (is_type (dtype_of inputs (cast_operand inner.tree)) c)
    (is_covered plan (number_at inner.numbers)) refl refl refl

-- ---- the induction

pub folded_good : (inputs : List Column) (plan : Plan) (numbers : Numbers) (tree : Tree) →
    IsTrusted inputs plan numbers tree →
    IsFoldedAs inputs plan numbers (folded_by inputs plan numbers tree) tree
folded_good inputs plan numbers (Input index) trusted =
    record { same = refl; refused = refl; careful = tt; number = λ m h. cc }
folded_good inputs plan numbers (Cast e c o) trusted =
    let t = trusted_over inputs plan numbers e (Cast e c o) trusted.rules trusted.kept in
    cast_good inputs plan numbers e c o (folded_by inputs plan (below numbers) e) t
    (folded_good inputs plan (below numbers) e t.under)
folded_good inputs plan numbers (Binary op l r) trusted =
    let t = trusted_both inputs plan numbers l r (Binary op l r) trusted.rules trusted.kept in
    let a = folded_good inputs plan (left_of numbers) l t.left in
    let b = folded_good inputs plan (right_of numbers) r t.right in
    let x = (folded_by inputs plan (left_of numbers) l).tree in
    let y = (folded_by inputs plan (right_of numbers) r).tree in
    record {
      same = same_binary inputs op x y l r a.same b.same;
      refused = λ i. option_or (a.refused i) (option_or (b.refused i)
          (refused_binary inputs (number_at numbers) op x y l r a.same b.same i));
      careful = tt;
      number = λ m h. cc;
    }
folded_good inputs plan numbers (ScalarRight e op k) trusted =
    let t = trusted_over inputs plan numbers e (ScalarRight e op k) trusted.rules trusted.kept in
    let a = folded_good inputs plan (below numbers) e t.under in
    let x = (folded_by inputs plan (below numbers) e).tree in
    record {
      same = same_right inputs x e op k a.same;
      refused = λ i. option_or (a.refused i)
          (refused_right inputs (number_at numbers) x e op k a.same i);
      careful = tt;
      number = λ m h. cc;
    }
folded_good inputs plan numbers (ScalarLeft k op e) trusted =
    let t = trusted_over inputs plan numbers e (ScalarLeft k op e) trusted.rules trusted.kept in
    let a = folded_good inputs plan (below numbers) e t.under in
    let x = (folded_by inputs plan (below numbers) e).tree in
    record {
      same = same_left inputs k op x e a.same;
      refused = λ i. option_or (a.refused i)
          (refused_left inputs (number_at numbers) k op x e a.same i);
      careful = tt;
      number = λ m h. cc;
    }
folded_good inputs plan numbers (InUnit e unit) trusted =
    let t = trusted_over inputs plan numbers e (InUnit e unit) trusted.rules trusted.kept in
    let a = folded_good inputs plan (below numbers) e t.under in
    let x = (folded_by inputs plan (below numbers) e).tree in
    record {
      same = same_unit_change inputs x e unit a.same;
      refused = λ i. option_or (a.refused i)
          (refused_unit_change inputs (number_at numbers) x e unit a.same i);
      careful = tt;
      number = λ m h. cc;
    }
folded_good inputs plan numbers (Shift e periods) trusted =
    let t = trusted_over inputs plan numbers e (Shift e periods) trusted.rules trusted.kept in
    let a = folded_good inputs plan (below numbers) e t.under in
    let x = (folded_by inputs plan (below numbers) e).tree in
    record {
      same = same_shift inputs x e periods a.same;
      refused = λ i. option_or (a.refused i) None;
      careful = tt;
      number = λ m h. cc;
    }

-- ---- plans

-- the rules of a plan that covers no node hold
no_rules : (inputs : List Column) (numbers : Numbers) (tree : Tree) →
    rules_hold inputs [] numbers tree ≡ true
no_rules inputs numbers (Input index) = refl
no_rules inputs numbers (Cast e c o) = rw (no_rules inputs (below numbers) e) refl
no_rules inputs numbers (Binary op l r) =
    rw (no_rules inputs (left_of numbers) l, no_rules inputs (right_of numbers) r) refl
no_rules inputs numbers (ScalarRight e op k) = rw (no_rules inputs (below numbers) e) refl
no_rules inputs numbers (ScalarLeft k op e) = rw (no_rules inputs (below numbers) e) refl
no_rules inputs numbers (InUnit e unit) = rw (no_rules inputs (below numbers) e) refl
no_rules inputs numbers (Shift e periods) = rw (no_rules inputs (below numbers) e) refl

trusted_by : ValidPlansAreKept → (inputs : List Column) (plan : Plan) (tree : Tree) →
    All IsValidColumn inputs → is_built_tree tree ≡ true → (valid : Bool) →
    is_plan_valid inputs plan tree ≡ valid →
    IsTrusted inputs (plan_if valid plan) (numbers_from 0 tree) tree
trusted_by law inputs plan tree columns built true h = record {
  rules = (and_parts (rules_hold inputs plan (numbers_from 0 tree) tree)
      (ends_before plan (node_count tree)) h).0;
  kept = law inputs plan tree columns built h;
}
trusted_by law inputs plan tree columns built false h = record {
  rules = no_rules inputs (numbers_from 0 tree) tree;
  kept = λ k d lt range is. cc;
}

-- the folded tree of an expression has its column and its first refusal
folded_whole : ValidPlansAreKept → (inputs : List Column) (plan : Plan) (tree : Tree) →
    All IsValidColumn inputs → is_built_tree tree ≡ true →
    IsFoldedAs inputs (plan_if (is_plan_valid inputs plan tree) plan) (numbers_from 0 tree)
    (folded inputs plan tree) tree
folded_whole law inputs plan tree columns built =
    folded_good inputs (plan_if (is_plan_valid inputs plan tree) plan) (numbers_from 0 tree) tree
    (trusted_by law inputs plan tree columns built (is_plan_valid inputs plan tree) refl)

-- folding changes no answer
pub folding_good : ValidPlansAreKept → FoldingChangesNoAnswer
folding_good law inputs plan tree columns built =
    let is = folded_whole law inputs plan tree columns built in
    λ i. unless_refused (is.refused i)
    (same_column inputs (folded inputs plan tree).tree tree is.same i)
