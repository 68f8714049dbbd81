use Rattle.std.proofs.Common.{arith, ap, sym, ◌≡◌, ◌∙◌, ◌++◌, ◌-◌, suc, length, rules}
use Rattle.col_model.specs.ChunkCalls.{longer_last}
use Rattle.col_chunk.specs.Chunks.{joined, lengths_of}
use Rattle.col_chunk.proofs.Pieces.{longer-last, longer-lengths}
use Rattle.col_chunk.proofs.appending.extend_last.Goals as goal

pub returns-clause-slots : goal.returns-clause-slots
returns-clause-slots g c =
    let slots = g.C.Chunk.slots in
    let len : c.len-count.result ≡ length c.args.chunks.now.items = search rules in
    let last : suc (c.len-count.result - 1) ≡ length c.args.chunks.now.items = omega (arith, len, c.if-count-eq0.false) in
    longer-last slots c.args.chunks.now.items (c.len-count.result - 1) c.in_ok-longer.longer c.index.result.now (joined slots c.args.others.now) last
    (c.in_ok-longer.ensures.slots ∙ ap (λ chunk. slots chunk ++ joined slots c.args.others.now) c.index.ensures)

pub returns-clause-lengths : goal.returns-clause-lengths
returns-clause-lengths g c =
    let slots = g.C.Chunk.slots in
    let len : c.len-count.result ≡ length c.args.chunks.now.items = search rules in
    let last : suc (c.len-count.result - 1) ≡ length c.args.chunks.now.items = omega (arith, len, c.if-count-eq0.false) in
    longer-lengths slots c.args.chunks.now.items (c.len-count.result - 1) c.in_ok-longer.longer c.index.result.now (joined slots c.args.others.now) last
    (c.in_ok-longer.ensures.slots ∙ ap (λ chunk. slots chunk ++ joined slots c.args.others.now) c.index.ensures)
    ∙ ap (λ n. longer_last n (lengths_of slots c.args.chunks.now.items)) (sym c.requires.added)
