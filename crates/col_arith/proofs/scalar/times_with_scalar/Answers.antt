use Rattle.std.specs.Int.{w64, w128}
use Rattle.std.proofs.Common.{refl}
use Rattle.std.proofs.lemmas.Int.{to_z-of_z}
use Rattle.col_types.specs.declared.data_type.DataType.{Time}
use Rattle.col_model.specs.Arithmetic.{Signed}
use Rattle.col_arith.specs.ScalarForm.{form_of}
use Rattle.col_arith.specs.declared.scalars.Ticks.TheVariants.{Times}
use Rattle.col_arith.proofs.ColumnLemmas.{scalar-answer, scalar-times}
use Rattle.col_arith.proofs.scalar.times_with_scalar.Goals as goal

pub returns : goal.returns
returns c =
    let words = rw (to_z-of_z w128 _ c.ranges.k) at c.times_of_scalar-words.ensures.column in
    record {
      column = scalar-answer c.args.column.now c.int64.result.now Time c.args.form c.args.k Times _ _ c.requires.time
          (record { word = refl; values = refl; bound = λ formula. refl; answer = refl; checked = refl }) c.int64.ensures.column words c.read_ticks.ensures.column;
    }

pub read_ticks-requires-clause-day : goal.read_ticks-requires-clause-day
read_ticks-requires-clause-day c =
    let words = rw (to_z-of_z w128 _ c.ranges.k) at c.times_of_scalar-words.ensures.column in
    scalar-times c.times_of_scalar-words.result (Signed w64) (form_of c.args.form c.args.k (Signed w64)) c.args.k c.int64.result.now words
