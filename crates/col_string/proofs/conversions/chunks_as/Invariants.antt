use Rattle.std.proofs.Common.{◌≡◌, ◌++◌, drop, true}
use Rattle.std.specs.List.{list_all}
use Rattle.col_chunk.specs.Chunks.{joined, lengths_of}
use Rattle.col_string.specs.Runs.{passes}
use Rattle.col_string.proofs.conversions.chunks_as.Given as goal

-- what is read and what is left make the whole, and what is left can be read
abbrev pub invariant-loop-chunk : goal.invariant-loop-chunk
invariant-loop-chunk g l = record {
  slots : joined (λ chunk. chunk) l.copies.items ++ joined (λ chunk. chunk) (drop l.chunk-index l.chunks) ≡ joined (λ chunk. chunk) l.chunks;
  lengths : lengths_of (λ chunk. chunk) l.copies.items ++ lengths_of (λ chunk. chunk) (drop l.chunk-index l.chunks) ≡ lengths_of (λ chunk. chunk) l.chunks;
  fits : list_all (passes g.Q.Reading.is_value) (joined (λ chunk. chunk) (drop l.chunk-index l.chunks)) ≡ true;
}
