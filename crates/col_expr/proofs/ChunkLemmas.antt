-- Two answers over columns that differ in their chunks alone.
use Rattle.std.proofs.Common.{◌≡◌, List, Result, Ok, Err, refl, sym, ap, subst}
use Rattle.col_model.specs.Column.{Column}
use Rattle.col_model.specs.Chunked.{Chunked, column_of, columns_of}
use Rattle.col_expr.specs.declared.error.EvalError.{EvalError}
use Rattle.col_expr.specs.declared.error.EvalError.TheVariants as refusals
use Rattle.col_expr.specs.Tree.{Tree}
use Rattle.col_expr.specs.Refusal.{Unless, GivesBy, outcome}
use Rattle.col_expr.specs.ChunkLaws.{DifferInChunks, IsSameAnswer, IsAnswerOf}
use Rattle.col_expr.proofs.NodeLemmas.{Unless-map}

-- where there is a column, what is refused is refused for want of memory
refused_alone : (error : EvalError) (column : Column) (expected : Result Column EvalError) →
    expected ≡ Ok column → Unless error (expected ≡ Err error) → error ≡ refusals.NoMemory
refused_alone (refusals.NoColumn node index count) column expected is h = cc
refused_alone (refusals.Lengths node left right) column expected is h = cc
refused_alone (refusals.BadType node) column expected is h = cc
refused_alone (refusals.Unsupported node) column expected is h = cc
refused_alone (refusals.Scalar node) column expected is h = cc
refused_alone (refusals.Strict node row) column expected is h = cc
refused_alone refusals.NoMemory column expected is h = refl

-- two answers of which the same is expected
same_expected : (expected : Result Column EvalError) (one other : Result Chunked EvalError) →
    GivesBy column_of one expected → GivesBy column_of other expected → IsSameAnswer one other
same_expected expected (Ok column) (Ok other) h g = cc
same_expected expected (Ok column) (Err refusal) h g =
    refused_alone refusal (column_of column) expected h g
same_expected expected (Err refusal) (Ok column) h g =
    refused_alone refusal (column_of column) expected g h
same_expected expected (Err refusal) (Err other) h g =
    Unless-map refusal (λ (e : expected ≡ Err refusal). Unless-map other
    (λ (d : expected ≡ Err other). cc) g) h

pub same_answers : (inputs others : List Chunked) (tree : Tree)
    (one other : Result Chunked EvalError) → DifferInChunks inputs others →
    IsAnswerOf inputs tree one → IsAnswerOf others tree other → IsSameAnswer one other
same_answers inputs others tree one other same h g =
    let Gives : Result Column EvalError → Type 0 = λ expected. GivesBy column_of other expected in
    same_expected (outcome (columns_of inputs) tree) one other h
    (subst Gives (sym (ap (λ columns. outcome columns tree) same)) g)
