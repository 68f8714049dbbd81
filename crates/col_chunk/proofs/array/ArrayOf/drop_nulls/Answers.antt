use Rattle.std.proofs.Common.{arith, ◌≡◌, filter, is_some, rules}
use Rattle.col_chunk.specs.Chunks.{joined}
use Rattle.col_chunk.proofs.Pieces.{kept-short}
use Rattle.col_chunk.proofs.array.ArrayOf.drop_nulls.Goals as goal

pub of_one-requires-clause-short : goal.of_one-requires-clause-short
of_one-requires-clause-short g c =
    let is : g.C.Chunk.slots c.in_ok-chunk.chunk ≡ filter is_some (joined g.C.Chunk.slots c.self.inside.chunks.items) = search rules in
    rw is (kept-short is_some (joined g.C.Chunk.slots c.self.inside.chunks.items) 4294967296 (omega (arith, c.self.invariant.0, c.self.invariant.1)))
