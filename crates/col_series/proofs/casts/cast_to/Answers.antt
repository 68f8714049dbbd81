use Rattle.std.proofs.Common.{◌≡◌, ◌∙◌, Some, ap, sym}
use Rattle.col_types.specs.declared.data_type.DataType.{DataType}
use Rattle.col_cast.specs.Casts.{ruled}
use Rattle.col_series.proofs.TableLemmas.{chosen-rule}
use Rattle.col_series.proofs.casts.cast_to.Goals as goal

pub returns-in-Some : goal.returns-in-Some
returns-in-Some c =
    let e : ruled c.args.column.now.column.dtype c.args.target.now c.args.options ≡ Some c.in-Some.rule =
    ap (λ (d : DataType). ruled d c.args.target.now c.args.options) (sym c.dtype.ensures.dtype) ∙ sym c.in-Some.ensures.rule in
    record {
      column = rw (chosen-rule c.args.options c.args.column.now.column.dtype c.args.target.now c.in-Some.rule c.known.ensures.valid.typed c.requires.built_type e)
          c.under_rule.ensures.column;
    }
