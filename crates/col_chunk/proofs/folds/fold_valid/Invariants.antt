use Rattle.std.proofs.Common.{◌≡◌, ◌+◌, ◌*◌, Some, drop}
use Rattle.std.specs.Prelude.{fold}
use Rattle.col_model.specs.Words.{integers_of}
use Rattle.col_buffer.specs.Validity.{masked}
use Rattle.col_chunk.proofs.folds.fold_valid.Given as goal

-- what is joined and what is left come to the whole
abbrev pub invariant-loop-at : goal.invariant-loop-at
invariant-loop-at g l =
    fold g.S.Step.step (g.T.Word.reading l.total) (integers_of (masked g.T.Word.reading (Some l.words) (l.offset + l.at * 64) (drop (l.at * 64) l.values)))
    ≡ fold g.S.Step.step (g.T.Word.reading l.initial.total) (integers_of (masked g.T.Word.reading (Some l.words) l.offset l.values))
