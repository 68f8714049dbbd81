use Rattle.std.specs.Int.{w128}
use Rattle.std.proofs.Common.{refl}
use Rattle.std.proofs.lemmas.Int.{to_z-of_z}
use Rattle.col_types.specs.declared.data_type.DataType.{Date}
use Rattle.col_arith.specs.declared.scalars.Ticks.TheVariants.{Days}
use Rattle.col_arith.proofs.ColumnLemmas.{scalar-answer}
use Rattle.col_arith.proofs.scalar.dates_with_scalar.Goals as goal

pub returns : goal.returns
returns c =
    let words = rw (to_z-of_z w128 _ c.ranges.k) at c.with_scalar.ensures.column in
    record {
      column = scalar-answer c.args.column.now c.int32.result.now Date c.args.form c.args.k Days _ _ c.requires.date
          (record { word = refl; values = refl; bound = λ formula. refl; answer = refl; checked = refl }) c.int32.ensures.column words c.read_dates.ensures.column;
    }
