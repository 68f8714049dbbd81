-- The two rules of folding, each as a law of columns.
use Rattle.std.proofs.Common.{◌≡◌, true, Option, Some, None, is_some, sym, ap}
use Rattle.col_types.specs.declared.cast_options.CastOptions.TheVariants.{NonStrict}
use Rattle.col_model.specs.Value.{Value}
use Rattle.col_model.specs.declared.ticks.UnitChange.TheVariants.{Finer, Coarser}
use Rattle.col_expr.specs.Meaning.{slot_at}
use Rattle.col_expr.specs.Folded.{step_of}
use Rattle.col_expr.specs.FoldLaws.{cast_to, JoinedCastsAreOne, TurnedCastsGiveBack}
use Rattle.col_expr.proofs.FoldFacts.{facts, same_column}
use Rattle.col_expr.proofs.FoldSteps.{step_is, joined_step}
use Rattle.col_expr.proofs.FoldTurns.{turned_back}
use Rattle.col_expr.proofs.FoldLemmas.{go_on, turn_back}

pub joined_casts : JoinedCastsAreOne
joined_casts inputs tree between target h =
    let f = facts inputs tree in
    let mid = cast_to tree between in
    let go = go_on (step_of inputs mid) (step_of inputs (cast_to mid target)) h in
    let j = joined_step f NonStrict NonStrict between target go.s go.t
    (step_is f NonStrict between go.s go.first)
    (step_is (facts inputs mid) NonStrict target go.t go.second) go.way in
    same_column inputs (cast_to mid target) (cast_to tree target) (sym j.same)

slot_there : (slot : Option Value) → is_some slot ≡ true → (y : Value) × (slot ≡ Some y)
slot_there None h = cc
slot_there (Some y) h = (y, λ i. Some y)

pub turned_casts : TurnedCastsGiveBack
turned_casts inputs tree between target h same kept =
    let f = facts inputs tree in
    let mid = cast_to tree between in
    let turn = turn_back (step_of inputs mid) (step_of inputs (cast_to mid target)) h in
    let is = turned_back f NonStrict NonStrict between target turn.m turn.n
    (step_is f NonStrict between (Finer turn.m) turn.first)
    (step_is (facts inputs mid) NonStrict target (Coarser turn.n) turn.second) same
    (λ row x there.
    slot_there (slot_at inputs mid row) (kept row (ap is_some there))) in
    same_column inputs (cast_to mid target) tree (sym is)
