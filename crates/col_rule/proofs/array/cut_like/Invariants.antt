use Rattle.std.proofs.Common.{◌≡◌, ◌++◌, ◌+◌, drop, take, length}
use Rattle.col_chunk.specs.Chunks.{joined, lengths_of}
use Rattle.col_rule.proofs.array.cut_like.Given as goal

-- the parts so far are the front of the whole, and as many rows are left as the other chunks have
abbrev pub invariant-loop-chunk : goal.invariant-loop-chunk
invariant-loop-chunk g l = record {
  slots : joined (λ chunk. chunk) l.parts.items ≡ take l.start l.whole;
  lengths : lengths_of (λ chunk. chunk) l.parts.items ++ lengths_of (λ chunk. chunk) (drop l.chunk-index l.like) ≡ lengths_of (λ chunk. chunk) l.like;
  start : l.start + length (joined (λ chunk. chunk) (drop l.chunk-index l.like)) ≡ l.rows;
}
