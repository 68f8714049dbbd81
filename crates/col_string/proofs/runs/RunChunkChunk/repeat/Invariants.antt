use Rattle.std.proofs.Common.{◌≡◌, ◌-◌, ◌++◌}
use Rattle.std.specs.Prelude.{replicate, slice_index_or, None}
use Rattle.col_string.proofs.runs.RunChunkChunk.repeat.Given as goal

-- what is written and what is left make the whole
abbrev pub invariant-loop : goal.invariant-loop
invariant-loop g l = l.builder ++ replicate (l.len - l.counter) (slice_index_or l.self l.index None) ≡ replicate l.len (slice_index_or l.self l.index None)
