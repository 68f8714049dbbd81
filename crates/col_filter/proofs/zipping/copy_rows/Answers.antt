use Rattle.std.proofs.Common.{◌≡◌, ◌≢◌, ◌∙◌, ◌++◌, ap, arith, length}
use Rattle.col_buffer.proofs.SlotLaws.{on_ok}
use Rattle.col_filter.proofs.ZipLaws.{part-slots_for, step-one}
use Rattle.col_filter.proofs.zipping.copy_rows.Goals as goal

pub returns-then-len-ne1 : goal.returns-then-len-ne1
returns-then-len-ne1 g c =
    let more : length (g.C.Chunk.slots c.args.chunk.now) ≢ 1 = λ e. c.if-len-ne1.true (c.len.ensures.len ∙ e) in
    record {
      slots = on_ok c.copy_onto.result (λ p. p ∙ ap (λ z. g.C.Chunk.written c.args.builder.now ++ z)
          (part-slots_for (g.C.Chunk.slots c.args.chunk.now) c.args.from c.args.count more (c.requires.inside more))) c.copy_onto.ensures.slots;
    }

pub loop-row-preserved : goal.loop-row-preserved
loop-row-preserved g c =
    let one : length (g.C.Chunk.slots c.args.chunk.now) ≡ 1 = omega (arith, c.if-len-ne1.false, c.len.ensures.len) in
    step-one (g.C.Chunk.slots c.args.chunk.now) (g.C.Chunk.written c.loop-row.builder) (g.C.Chunk.written c.push_onto.new.builder) (g.C.Chunk.written c.args.builder.now)
    c.args.from c.loop-row._row one c.in_ok-push_onto.ensures.slots c.loop-row.invariant
