use Rattle.std.proofs.Common.{◌≡◌, ◌++◌, drop, length}
use Rattle.col_chunk.specs.Chunks.{joined, rows_left}
use Rattle.col_rule.specs.Rules.{paired}
use Rattle.col_rule.proofs.joining.meet_chunks.Given as goal

-- what is done and what is left make the whole
abbrev pub invariant-loop-chunk : goal.invariant-loop-chunk
invariant-loop-chunk g l =
    let value = g.R.PairRule.value l.rule in
    let left = joined (λ chunk. chunk) (drop l.chunk-index l.left) in
    let right = rows_left l.place.chunk l.place.skip l.right in
    record {
      room : length left ≡ length right;
      slots : l.builder ++ paired value left right
          ≡ paired value (joined (λ chunk. chunk) l.left) l.right.column.slots;
    }
