use Rattle.std.proofs.Common.{ap}
use Rattle.col_expr.specs.Meaning.{step_count}
use Rattle.col_expr.specs.Plan.{is_plan_valid}
use Rattle.col_expr.specs.FoundPlan.{found_plan}
use Rattle.col_expr.specs.Folded.{folded}
use Rattle.col_expr.specs.Refusal.{outcome}
use Rattle.col_expr.proofs.ChunkLemmas.{same_answers}
use Rattle.col_expr.proofs.laws.chunks_do_not_matter.Goals as goal

pub returns : goal.returns
returns c = record {
  law = record {
    answers = same_answers;
    outcomes = λ inputs others tree same. ap (λ columns. outcome columns tree) same;
    steps = λ inputs others tree same. ap (λ columns. step_count columns tree) same;
    folded_trees = λ inputs others plan tree same. ap (λ columns. folded columns plan tree) same;
    folded_steps = λ inputs others plan tree same.
        ap (λ columns. step_count columns (folded columns plan tree).tree) same;
    plans = λ inputs others plan tree same. ap (λ columns. is_plan_valid columns plan tree) same;
    found_plans = λ inputs others tree same. ap (λ columns. found_plan columns tree) same;
  };
}
