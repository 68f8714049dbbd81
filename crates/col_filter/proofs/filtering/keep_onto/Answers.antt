use Rattle.std.proofs.Common.{◌≡◌, ◌∙◌, ◌+◌, ◌<◌, ap, sym, arith, length}
use Rattle.col_buffer.proofs.SlotLaws.{on_ok}
use Rattle.col_filter.proofs.KeptLaws.{run-last, step-ends, step-grows}
use Rattle.col_filter.proofs.filtering.keep_onto.Goals as goal
use Rattle.col_filter.proofs.filtering.keep_onto.Goals.{then-not-holds+in_ok-copy_run, else-not-holds}

pub loop-row-preserved : goal.loop-row-preserved
loop-row-preserved g c =
    let slots = g.C.Chunk.slots c.args.chunk.now in
    let row = c.loop-row.row in
    let inside : row < length slots = omega (arith, c.loop-row-test.true, c.len-len.ensures.len) in
    let in_mask : c.args.start + row < length c.args.mask.now = omega (arith, inside, c.requires.inside) in
    elim c.if-not-holds.branch [
      | then-not-holds+in_ok-copy_run w ↦ record {
        order = omega (arith, w.from-is);
        slots = step-ends c.args.mask.now slots (g.C.Chunk.written c.loop-row.builder) (g.C.Chunk.written c.if-not-holds.builder) _ c.args.start c.loop-row.from c.if-not-holds.from row
            in_mask inside (sym w.if-not-holds.true ∙ c.holds.ensures.holds) (ap g.C.Chunk.written w.builder-is ∙ w.in_ok-copy_run.ensures.slots) w.from-is c.loop-row.invariant.slots;
      }
      | else-not-holds w ↦ record {
        order = omega (arith, w.from-is, c.loop-row.invariant.order);
        slots = step-grows c.args.mask.now slots (g.C.Chunk.written c.loop-row.builder) (g.C.Chunk.written c.if-not-holds.builder) _ c.args.start c.loop-row.from c.if-not-holds.from row
            c.loop-row.invariant.order in_mask inside (sym w.if-not-holds.false ∙ c.holds.ensures.holds) (ap g.C.Chunk.written w.builder-is) w.from-is c.loop-row.invariant.slots;
      }
    ]

pub returns : goal.returns
returns g c =
    let slots = g.C.Chunk.slots c.args.chunk.now in
    let same : c.loop-row.row ≡ c.len-len.result = omega (arith, c.loop-row-test.false, c.loop-row.auto.row-end) in
    record {
      slots = on_ok c.copy_run-2.result (λ p. p ∙ run-last _ slots (g.C.Chunk.written c.loop-row.builder) _ c.loop-row.from c.loop-row.row c.len-len.result
          same (omega (arith, same, c.len-len.ensures.len)) c.loop-row.invariant.slots) c.copy_run-2.ensures.slots;
    }
