use Rattle.std.proofs.Common.{arith, ap, ◌≡◌, ◌+◌, ◌*◌, ◌<◌, min, Some, ℕ, ◌==◌, length}
use Rattle.col_chunk.proofs.FoldLaws.{runs-step}
use Rattle.col_chunk.proofs.folds.fold_valid.Goals as goal

pub loop-at-preserved : goal.loop-at-preserved
loop-at-preserved g c =
    let at = c.loop-at.at in
    let inside : at * 64 < length c.args.values.now = omega (arith, c.loop-at-test.true, c.div_ceil-at-end.ensures) in
    let end : c.min-end.result ≡ min (length c.args.values.now) (at * 64 + 64) = omega (arith, c.min-end.ensures, c.saturating_add.ensures, c.requires.fits, inside) in
    runs-step g.T.Word.reading g.S.Step.step (Some c.args.words.now) c.word_from-word.result c.args.offset at c.min-end.result c.args.values.now (g.T.Word.reading c.loop-at.total) (g.T.Word.reading c.fold_run-total.result) _
    inside end
    (λ j less. ap (λ (n : ℕ). n == 1) (c.word_from-word.ensures.bits j (omega (arith, end)) (omega (arith, end, c.requires.reach))))
    c.fold_run-total.ensures.value c.loop-at.invariant
