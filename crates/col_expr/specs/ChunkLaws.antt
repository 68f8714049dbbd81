-- That no answer depends on the chunks in which columns are kept.
use Rattle.std.specs.Prelude.{◌≡◌, List, Result, Ok, Err}
use Rattle.col_model.specs.Chunked.{Chunked, column_of, columns_of}
use Rattle.col_expr.specs.declared.error.EvalError.{EvalError}
use Rattle.col_expr.specs.declared.error.EvalError.TheVariants as refusals
use Rattle.col_expr.specs.Tree.{Tree}
use Rattle.col_expr.specs.Meaning.{step_count}
use Rattle.col_expr.specs.Plan.{Plan, is_plan_valid}
use Rattle.col_expr.specs.FoundPlan.{found_plan}
use Rattle.col_expr.specs.Folded.{folded}
use Rattle.col_expr.specs.Refusal.{Unless, GivesBy, outcome}

-- two lists of equal columns, which differ in their chunks alone
abbrev pub DifferInChunks : List Chunked → List Chunked → Type 0
DifferInChunks inputs others = columns_of inputs ≡ columns_of others

-- two answers tell the same: equal columns, each in whatever chunks, or equal refusals. Want of
-- memory is no answer of an expression, so it says nothing of the other one.
abbrev pub IsSameAnswer : Result Chunked EvalError → Result Chunked EvalError → Type 0
IsSameAnswer (Ok column) (Ok other) = column_of column ≡ column_of other
IsSameAnswer (Ok column) (Err refusal) = refusal ≡ refusals.NoMemory
IsSameAnswer (Err refusal) (Ok column) = refusal ≡ refusals.NoMemory
IsSameAnswer (Err refusal) (Err other) = Unless refusal (Unless other (refusal ≡ other))

-- what an evaluation can answer: `evaluate` and `evaluate_folded` ensure it of their results
abbrev pub IsAnswerOf : List Chunked → Tree → Result Chunked EvalError → Type 0
IsAnswerOf inputs tree answer = GivesBy column_of answer (outcome (columns_of inputs) tree)

-- inputs that differ in their chunks alone: whichever evaluation is called on each, both answers
-- tell the same, the steps are as many, and plans that are given or found are as good
pub record ChunksDontMatter : Type 0 where
  pub answers : (inputs others : List Chunked) (tree : Tree) (one other : Result Chunked EvalError) →
      DifferInChunks inputs others → IsAnswerOf inputs tree one → IsAnswerOf others tree other →
      IsSameAnswer one other
  pub outcomes : (inputs others : List Chunked) (tree : Tree) → DifferInChunks inputs others →
      outcome (columns_of inputs) tree ≡ outcome (columns_of others) tree
  pub steps : (inputs others : List Chunked) (tree : Tree) → DifferInChunks inputs others →
      step_count (columns_of inputs) tree ≡ step_count (columns_of others) tree
  pub folded_trees : (inputs others : List Chunked) (plan : Plan) (tree : Tree) →
      DifferInChunks inputs others →
      folded (columns_of inputs) plan tree ≡ folded (columns_of others) plan tree
  pub folded_steps : (inputs others : List Chunked) (plan : Plan) (tree : Tree) →
      DifferInChunks inputs others →
      step_count (columns_of inputs) (folded (columns_of inputs) plan tree).tree
      ≡ step_count (columns_of others) (folded (columns_of others) plan tree).tree
  pub plans : (inputs others : List Chunked) (plan : Plan) (tree : Tree) →
      DifferInChunks inputs others →
      is_plan_valid (columns_of inputs) plan tree ≡ is_plan_valid (columns_of others) plan tree
  pub found_plans : (inputs others : List Chunked) (tree : Tree) → DifferInChunks inputs others →
      found_plan (columns_of inputs) tree ≡ found_plan (columns_of others) tree
