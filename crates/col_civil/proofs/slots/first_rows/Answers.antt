use Rattle.std.proofs.Common.{arith, ap, sym, ◌∙◌, ◌-◌, ◌+◌, ◌≡◌, List, Option, drop, length}
use Rattle.col_model.specs.Value.{Value}
use Rattle.col_chunk.specs.Chunks.{joined}
use Rattle.col_chunk.proofs.Pieces.{pieces-from}
use Rattle.col_chunk.proofs.CursorLaws.{drop-past}
use Rattle.col_civil.proofs.slots.first_rows.Goals as goal

pub loop-at-preserved : goal.loop-at-preserved
loop-at-preserved g c =
    let at = c.loop-at.at in
    let chunk = c.index-chunks-at.result in
    let skip = c.loop-at.skip in
    let rest : List (Option Value) = joined (λ xs. xs) (drop (at + 1) c.args.chunks.now) in
    let e : drop skip (joined (λ xs. xs) (drop at c.args.chunks.now)) ≡ drop (skip - length chunk) rest =
    ap (drop skip) (pieces-from (λ xs. xs) c.args.chunks.now at chunk c.loop-at-test.true c.index-chunks-at.is) ∙ drop-past chunk rest skip (omega (arith, c.if-skip-size.false, c.len-size.ensures.len)) in
    rw c.len-size.ensures.len (sym e ∙ c.loop-at.invariant)
