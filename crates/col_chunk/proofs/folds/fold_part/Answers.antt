use Rattle.std.proofs.Common.{ap, sym, ◌∙◌}
use Rattle.std.specs.Prelude.{fold}
use Rattle.col_chunk.proofs.FoldLaws.{plain-integers}
use Rattle.col_chunk.proofs.folds.fold_part.Goals as goal

pub returns-in-None : goal.returns-in-None
returns-in-None g c =
    record { value = rw c.in-None.is (c.fold_plain.ensures.value ∙ ap (fold g.S.Step.step (g.T.Word.reading c.args.total)) (sym (plain-integers g.T.Word.reading c.args.place c.args.values.now))) }
