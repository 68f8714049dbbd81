use Rattle.std.proofs.Common.{arith, ap, sym, ◌≡◌, ◌∙◌, true, false}
use Rattle.std.specs.Prelude.{fold}
use Rattle.col_model.specs.Words.{integers_of}
use Rattle.col_chunk.specs.Folds.{run_slots}
use Rattle.col_chunk.proofs.FoldLaws.{run-ones, run-step}
use Rattle.col_chunk.proofs.folds.fold_run.Goals as goal
use Rattle.col_chunk.proofs.folds.fold_run.Goals.{then-has_bit, else-has_bit}

pub returns-then-word-eq18446744073709551615 : goal.returns-then-word-eq18446744073709551615
returns-then-word-eq18446744073709551615 g c =
    let is : c.args.word ≡ 18446744073709551615 = omega (arith, c.if-word-eq18446744073709551615.true) in
    record {
      value = c.fold_plain.ensures.value
          ∙ ap (fold g.S.Step.step (g.T.Word.reading c.args.total)) (sym (ap (λ w. integers_of (run_slots g.T.Word.reading w 0 c.args.values.now)) is ∙ run-ones g.T.Word.reading 0 c.args.values.now (omega (arith, c.requires.short))));
    }

pub loop-at-preserved : goal.loop-at-preserved
loop-at-preserved g c =
    elim c.if-has_bit.branch [
      | then-has_bit w ↦ run-step g.T.Word.reading g.S.Step.step c.args.word c.loop-at.at c.args.values.now c.index-values-at.result true (g.T.Word.reading c.loop-at.total) (g.T.Word.reading c.if-has_bit.total) _
          c.loop-at-test.true c.index-values-at.is (sym w.if-has_bit.true ∙ c.has_bit.ensures.set) (ap g.T.Word.reading w.total-is ∙ w.join-total.ensures.value) c.loop-at.invariant
      | else-has_bit w ↦ run-step g.T.Word.reading g.S.Step.step c.args.word c.loop-at.at c.args.values.now c.index-values-at.result false (g.T.Word.reading c.loop-at.total) (g.T.Word.reading c.if-has_bit.total) _
          c.loop-at-test.true c.index-values-at.is (sym w.if-has_bit.false ∙ c.has_bit.ensures.set) (ap g.T.Word.reading w.total-is) c.loop-at.invariant
    ]
