use Rattle.std.proofs.Common.{◌≡◌, ◌∙◌, ◌++◌, ◌-◌, ap, sym, arith, None, length}
use Rattle.std.specs.Prelude.{slice_index_or}
use Rattle.col_model.specs.Broadcast.{operand_row}
use Rattle.col_boolean.specs.Sums.{slot_for}
use Rattle.col_filter.specs.Filters.{is_true_slot}
use Rattle.col_filter.specs.Zips.{slots_for}
use Rattle.col_filter.proofs.ZipLaws.{mask-row-inside, step-goes, step-turns}
use Rattle.col_filter.proofs.zipping.zipped_chunk.Goals as goal
use Rattle.col_filter.proofs.zipping.zipped_chunk.Goals.{then-differ+in_ok-copy_rows, else-differ}

pub holds-is_true-requires : goal.holds-is_true-requires
holds-is_true-requires g c =
    let inside = mask-row-inside (length c.args.mask.now) (length (g.C.Chunk.slots c.args.first.now)) (length (g.C.Chunk.slots c.args.second.now)) c.args.rows c.requires.rows c.loop-row.row c.loop-row-test.true in
    record { inside = rw (c.operand_row.ensures.row, c.len.ensures.len) inside }

pub loop-row-preserved : goal.loop-row-preserved
loop-row-preserved g c =
    let first = g.C.Chunk.slots c.args.first.now in
    let second = g.C.Chunk.slots c.args.second.now in
    let row = c.loop-row.row in
    let from = c.loop-row.from in
    let done = g.C.Chunk.written c.loop-row.builder in
    let new = g.C.Chunk.written c.if-differ.builder in
    let picks : c.holds-is_true.result ≡ is_true_slot (slot_for c.args.mask.now row) =
    c.holds-is_true.ensures.holds ∙ ap (λ n. is_true_slot (slice_index_or c.args.mask.now n None)) (c.operand_row.ensures.row ∙ ap (λ n. operand_row n row) c.len.ensures.len) in
    elim c.if-differ.branch [
      | then-differ+in_ok-copy_rows w ↦ record {
        order = omega (arith, w.from-is);
        slots = step-turns c.args.mask.now first second new done from c.if-differ.from row c.loop-row.is_first c.holds-is_true.result c.if-differ.is_first picks
            (ap g.C.Chunk.written w.builder-is ∙ w.in_ok-copy_rows.ensures.slots ∙ ap (λ ss. done ++ slots_for ss from (row - from)) w.side.ensures.side)
            w.from-is w.is_first-is c.loop-row.invariant.slots;
      }
      | else-differ w ↦ record {
        order = omega (arith, w.from-is, c.loop-row.invariant.order);
        slots = step-goes c.args.mask.now first second new done from c.if-differ.from row c.loop-row.is_first c.if-differ.is_first c.loop-row.invariant.order
            (sym (c.differ.ensures.differ w.if-differ.false) ∙ picks) (ap g.C.Chunk.written w.builder-is) w.from-is w.is_first-is c.loop-row.invariant.slots;
      }
    ]
