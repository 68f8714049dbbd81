use Rattle.col_arith.proofs.CoercionLemmas.{cast_given}
use Rattle.col_arith.proofs.coercion.cast_to.Goals as goal

pub returns : goal.returns
returns c = record { column = rw (cast_given c.args.column.now.column c.args.target.now c.requires.can) at c.cast_with_options.ensures.column }
