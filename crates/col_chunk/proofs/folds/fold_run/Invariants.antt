use Rattle.std.proofs.Common.{◌≡◌, drop}
use Rattle.std.specs.Prelude.{fold}
use Rattle.col_model.specs.Words.{integers_of}
use Rattle.col_chunk.specs.Folds.{run_slots}
use Rattle.col_chunk.proofs.folds.fold_run.Given as goal

-- what is joined and what is left come to the whole
abbrev pub invariant-loop-at : goal.invariant-loop-at
invariant-loop-at g l =
    fold g.S.Step.step (g.T.Word.reading l.total) (integers_of (run_slots g.T.Word.reading l.word l.at (drop l.at l.values)))
    ≡ fold g.S.Step.step (g.T.Word.reading l.initial.total) (integers_of (run_slots g.T.Word.reading l.word 0 l.values))
