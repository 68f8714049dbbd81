use Rattle.std.proofs.Common.{◌∙◌, sym, ap}
use Rattle.std.specs.Option.{option_copied}
use Rattle.std.proofs.lemmas.List.{length-map}
use Rattle.col_model.specs.Chunked.{column_of, columns_of}
use Rattle.col_expr.specs.Tree.{Input}
use Rattle.col_expr.specs.Numbers.{One}
use Rattle.col_expr.specs.Refusal.{first_refusal}
use Rattle.col_expr.proofs.InputsLemmas.{column_there, no_column}
use Rattle.col_expr.proofs.NodeLemmas.{found_input, found_whole, no_input}
use Rattle.col_expr.proofs.evaluation.input_column.Goals as goal

pub returns-in-Some : goal.returns-in-Some
returns-in-Some c =
    let inputs = columns_of c.args.inputs.now in
    let t = Input c.args.index in
    record {
      found = found_whole inputs (first_refusal inputs (One c.args.node) t) t
          c.in-Some.column.now c.cloned.result
          (found_input inputs c.args.node c.args.index (column_of c.in-Some.column.now)
          (column_there c.args.inputs.now c.args.index c.in-Some.column.now
          (sym c.get.ensures.column ∙ ap option_copied c.in-Some.is)))
          c.cloned.ensures.column;
    }

pub returns-in-None : goal.returns-in-None
returns-in-None c = record {
  found = rw (c.len.ensures.value, ← length-map c.args.inputs.now column_of)
      (no_input (columns_of c.args.inputs.now) c.args.node c.args.index
      (no_column c.args.inputs.now c.args.index
      (sym c.get.ensures.column ∙ ap option_copied c.in-None.is)));
}
