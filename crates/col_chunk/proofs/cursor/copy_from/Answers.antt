use Rattle.std.proofs.Common.{arith, ap, sym, ◌∙◌, ◌++◌, ◌+◌, ◌-◌, ◌≡◌, ◌≤◌, List, Option, drop, take, length, length-drop}
use Rattle.std.proofs.lemmas.List.{append_assoc, drop-append-le, take_all, length-append}
use Rattle.col_model.specs.Value.{Value}
use Rattle.col_chunk.specs.Chunks.{joined}
use Rattle.col_chunk.proofs.Pieces.{pieces-from}
use Rattle.col_chunk.proofs.CursorLaws.{drop-past, take-past}
use Rattle.col_chunk.proofs.cursor.copy_from.Goals as goal

pub loop-at-preserved-then-skip-size : goal.loop-at-preserved-then-skip-size
loop-at-preserved-then-skip-size g c =
    let slots = g.C.Chunk.slots in
    let at = c.loop-at.at in
    let chunk = c.index-chunks-at.result in
    let skip = c.loop-at.skip in
    let left = c.loop-at.left in
    let rest : List (Option Value) = joined slots (drop (at + 1) c.args.chunks.now) in
    let e : drop skip (joined slots (drop at c.args.chunks.now)) ≡ drop (skip - length (slots chunk)) rest =
    ap (drop skip) (pieces-from slots c.args.chunks.now at chunk c.loop-at-test.true c.index-chunks-at.is) ∙ drop-past (slots chunk) rest skip (omega (arith, c.if-skip-size.true, c.len-size.ensures.len)) in
    rw c.len-size.ensures.len (record {
      room = omega (arith, ap length e, c.loop-at.invariant.room);
      slots = sym (ap (λ (xs : List (Option Value)). g.C.Chunk.written c.loop-at.builder ++ take left xs) e) ∙ c.loop-at.invariant.slots;
      rest = sym (ap (drop left) e) ∙ c.loop-at.invariant.rest;
    })

pub loop-at-preserved : goal.loop-at-preserved
loop-at-preserved g c =
    let slots = g.C.Chunk.slots in
    let at = c.loop-at.at in
    let chunk = c.index-chunks-at.result in
    let skip = c.loop-at.skip in
    let left = c.loop-at.left in
    let rest : List (Option Value) = joined slots (drop (at + 1) c.args.chunks.now) in
    let tail : List (Option Value) = drop skip (slots chunk) in
    let long : length tail ≡ length (slots chunk) - skip = length-drop skip (slots chunk) in
    let e : drop skip (joined slots (drop at c.args.chunks.now)) ≡ tail ++ rest =
    ap (drop skip) (pieces-from slots c.args.chunks.now at chunk c.loop-at-test.true c.index-chunks-at.is) ∙ drop-append-le skip (slots chunk) rest (omega (arith, c.if-skip-size.false, c.len-size.ensures.len)) in
    let same : left - length tail ≡ left - (length (slots chunk) - skip) = omega (arith, long) in
    let all : take (length (slots chunk) - skip) tail ≡ tail = take_all (length (slots chunk) - skip) tail (omega (arith, long)) in
    let past : length tail ≤ left = omega (arith, long, c.if-left-room.false, c.len-size.ensures.len) in
    rw (c.in_ok-copy_onto-2.ensures.slots, c.len-size.ensures.len) (record {
      room = omega (arith, ap length e, length-append tail rest, long, c.loop-at.invariant.room, c.if-left-room.false, c.len-size.ensures.len);
      slots = ap (λ (xs : List (Option Value)). (g.C.Chunk.written c.loop-at.builder ++ xs) ++ take (left - (length (slots chunk) - skip)) rest) all
          ∙ append_assoc (g.C.Chunk.written c.loop-at.builder) tail (take (left - (length (slots chunk) - skip)) rest)
          ∙ ap (λ (xs : List (Option Value)). g.C.Chunk.written c.loop-at.builder ++ xs) (ap (λ (n : _). tail ++ take n rest) (sym same) ∙ sym (take-past tail rest left past) ∙ ap (take left) (sym e))
          ∙ c.loop-at.invariant.slots;
      rest = ap (λ (n : _). drop n rest) (sym same) ∙ sym (drop-past tail rest left past) ∙ ap (drop left) (sym e) ∙ c.loop-at.invariant.rest;
    })
