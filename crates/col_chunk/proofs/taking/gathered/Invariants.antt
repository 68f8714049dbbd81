use Rattle.std.proofs.Common.{◌≡◌, ◌∷◌, ◌++◌, [], None, drop, map}
use Rattle.col_model.specs.ChunkCalls.{slot_named}
use Rattle.col_chunk.specs.Chunks.{joined, starts_of}
use Rattle.col_chunk.proofs.taking.gathered.Given as goal

-- what is written and what is left make the whole
abbrev pub invariant-loop-part : goal.invariant-loop-part
invariant-loop-part g l = record {
  starts : l.starts.items ≡ starts_of g.C.Chunk.slots 0 l.chunks;
  null : g.C.Chunk.slots l.null ≡ None ∷ [];
  slots : g.C.Chunk.written l.builder ++ map (slot_named (joined g.C.Chunk.slots l.chunks)) (joined (λ chunk. chunk) (drop l.part-index l.indices))
      ≡ map (slot_named (joined g.C.Chunk.slots l.chunks)) (joined (λ chunk. chunk) l.indices);
}
