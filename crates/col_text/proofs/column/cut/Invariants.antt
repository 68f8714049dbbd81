use Rattle.std.proofs.Common.{◌≡◌, ◌++◌, ◌+◌, drop, take}
use Rattle.std.specs.Prelude.{sum}
use Rattle.col_chunk.specs.Chunks.{joined, lengths_of}
use Rattle.col_text.proofs.column.cut.Given as goal

-- the parts so far are the front of the whole, and the lengths that are left cut the rest
abbrev pub invariant-loop-len : goal.invariant-loop-len
invariant-loop-len g l = record {
  slots : joined (λ chunk. chunk) l.parts.items ≡ take l.start l.whole;
  lengths : lengths_of (λ chunk. chunk) l.parts.items ++ drop l.len-index l.lengths ≡ l.lengths;
  start : l.start + sum (drop l.len-index l.lengths) ≡ l.rows;
}
