use Rattle.std.proofs.Common.{◌≡◌, ◌++◌, ◌≤◌, drop, take, length}
use Rattle.col_chunk.specs.Chunks.{rows_from}
use Rattle.col_chunk.proofs.cursor.copy_from.Given as goal

-- what is written and what is left to write make the part
abbrev pub invariant-loop-at : goal.invariant-loop-at
invariant-loop-at g l =
    let whole = rows_from g.C.Chunk.slots l.fn.place.chunk l.fn.place.skip l.chunks in
    let rest = rows_from g.C.Chunk.slots l.at l.skip l.chunks in
    record {
      room : l.left ≤ length rest;
      slots : g.C.Chunk.written l.builder ++ take l.left rest
          ≡ g.C.Chunk.written l.initial.builder ++ take l.len whole;
      rest : drop l.left rest ≡ drop l.len whole;
    }
