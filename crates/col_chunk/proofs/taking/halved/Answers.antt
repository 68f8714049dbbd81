use Rattle.std.proofs.Common.{◌≡◌, ◌∙◌, ◌-◌, ap, arith, length, get_or}
use Rattle.col_chunk.proofs.StartLaws.{length-starts, last-start, found-in}
use Rattle.col_chunk.proofs.taking.halved.Goals as goal

pub halving-at-requires-clause-behind : goal.halving-at-requires-clause-behind
halving-at-requires-clause-behind g c =
    let slots = g.C.Chunk.slots in
    let long = ap length c.requires.starts ∙ length-starts slots 0 c.args.chunks.now in
    let last : length c.args.starts.now - 1 ≡ length c.args.chunks.now = omega (arith, long) in
    let is = ap (λ n. get_or c.args.starts.now n 0) last ∙ last-start slots c.args.starts.now c.args.chunks.now c.requires.starts in
    omega (arith, is, c.requires.row)

pub returns-clause-inside : goal.returns-clause-inside
returns-clause-inside g c =
    (found-in g.C.Chunk.slots c.args.starts.now c.args.chunks.now c.halving-at.result c.args.row c.index-chunks-at.result
    c.index-chunks-at.is c.requires.starts c.halving-at.ensures.at c.halving-at.ensures.from c.halving-at.ensures.to).0

pub returns-clause-slot : goal.returns-clause-slot
returns-clause-slot g c =
    (found-in g.C.Chunk.slots c.args.starts.now c.args.chunks.now c.halving-at.result c.args.row c.index-chunks-at.result
    c.index-chunks-at.is c.requires.starts c.halving-at.ensures.at c.halving-at.ensures.from c.halving-at.ensures.to).1
