use Rattle.std.specs.Prelude.{Result}
use Rattle.std.proofs.Common.{subst}
use Rattle.col_types.specs.PolarsError.{GivesBy}
use Rattle.col_types.specs.declared.data_type.DataType.{Duration, Int64}
use Rattle.col_types.specs.declared.error.PolarsError.{PolarsError}
use Rattle.col_types.specs.declared.time_unit.TimeUnit.TheVariants.{Nanoseconds}
use Rattle.col_model.specs.Chunked.{column_of}
use Rattle.col_model.specs.Column.{Column}
use Rattle.col_model.specs.Formula.{X, Y, Difference}
use Rattle.col_arith.proofs.ColumnLemmas.{joined-answer, times-apart, times-words}
use Rattle.col_arith.proofs.joined.times_apart.Goals as goal

pub returns : goal.returns
returns c =
    let first = times-words c.args.left.now c.int64.result.now c.requires.left c.int64.ensures.column c.known.ensures.valid.values in
    let second = times-words c.args.right.now c.int64-2.result.now c.requires.right c.int64-2.ensures.column c.known-2.ensures.valid.values in
    let words = subst (λ (r : Result Column PolarsError). GivesBy column_of c.between_times-words.result r)
    (times-apart Int64 c.int64.result.now.column c.int64-2.result.now.column first second) c.between_times-words.ensures.column in
    record { column = joined-answer (Difference X Y) (Duration Nanoseconds) Int64 c.args.left.now c.args.right.now c.int64.result.now c.int64-2.result.now _ _ c.int64.ensures.column c.int64-2.ensures.column words c.read_ticks.ensures.column }
