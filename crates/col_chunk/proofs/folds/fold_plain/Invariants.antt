use Rattle.std.proofs.Common.{◌≡◌, drop, map}
use Rattle.std.specs.Prelude.{fold}
use Rattle.col_chunk.proofs.folds.fold_plain.Given as goal

-- what is joined and what is left come to the whole
abbrev pub invariant-loop-value : goal.invariant-loop-value
invariant-loop-value g l =
    fold g.S.Step.step (g.T.Word.reading l.total) (map g.T.Word.reading (drop l.value-index l.values)) ≡ fold g.S.Step.step (g.T.Word.reading l.initial.total) (map g.T.Word.reading l.values)
