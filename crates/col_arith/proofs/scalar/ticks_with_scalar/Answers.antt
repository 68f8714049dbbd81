use Rattle.std.specs.Int.{w128}
use Rattle.std.proofs.Common.{refl, subst, ◌∙◌}
use Rattle.std.proofs.lemmas.Int.{to_z-of_z}
use Rattle.col_types.specs.PolarsError.{Gives, seen_by}
use Rattle.col_types.specs.declared.data_type.DataType.{DataType}
use Rattle.col_arith.specs.declared.scalars.Ticks.TheVariants.{Wide}
use Rattle.col_logical.specs.Logical.{retyped}
use Rattle.col_arith.proofs.ColumnLemmas.{scalar-answer}
use Rattle.col_arith.proofs.scalar.ticks_with_scalar.Goals as goal

pub returns : goal.returns
returns c =
    let words = rw (to_z-of_z w128 _ c.ranges.k) at c.with_scalar-words.ensures.column in
    let typed = c.clone_flat.ensures.equal ∙ c.dtype.ensures.dtype in
    let read = subst (λ (d : DataType). Gives c.read_ticks.result (seen_by (retyped d) c.with_scalar-words.result)) typed c.read_ticks.ensures.column in
    record {
      column = scalar-answer c.args.column.now c.int64.result.now c.args.column.now.column.dtype c.args.form c.args.k Wide _ _ refl
          c.requires.fits c.int64.ensures.column words read;
    }
