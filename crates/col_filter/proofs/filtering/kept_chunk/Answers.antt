use Rattle.std.proofs.Common.{◌+◌, ap, arith, drop, length}
use Rattle.std.proofs.lemmas.List.{length-append}
use Rattle.col_chunk.specs.Chunks.{joined}
use Rattle.col_chunk.proofs.Pieces.{pieces-from}
use Rattle.col_filter.proofs.KeptLaws.{step-chunk}
use Rattle.col_filter.proofs.filtering.kept_chunk.Goals as goal

pub loop-chunk-preserved : goal.loop-chunk-preserved
loop-chunk-preserved g c =
    let slots = g.C.Chunk.slots in
    let chunk = c.chunk-item.result in
    let rest = joined slots (drop (c.loop-chunk.chunk-index + 1) c.args.chunks.now) in
    let is = pieces-from slots c.args.chunks.now c.loop-chunk.chunk-index chunk c.loop-chunk-test.true c.chunk-item.is in
    record {
      rows = omega (arith, ap length is, length-append (slots chunk) rest, c.len-start.ensures.len, c.loop-chunk.invariant.rows);
      slots = step-chunk c.args.mask.now (g.C.Chunk.written c.loop-chunk.builder) (g.C.Chunk.written c.keep_onto.new.builder) _ (slots chunk) rest _ c.loop-chunk.start c.len-start.result
          c.in_ok-keep_onto.ensures.slots c.len-start.ensures.len is c.loop-chunk.invariant.slots;
    }
