use Rattle.std.proofs.Common.{◌≡◌, ◌++◌, ◌-◌, take, drop}
use Rattle.col_string.proofs.runs.RunChunkChunk.copy_onto.Given as goal

-- what is written and what is left make the whole
abbrev pub invariant-loop-index : goal.invariant-loop-index
invariant-loop-index g l = l.builder ++ take (l.index-end - l.index) (drop l.index l.self) ≡ l.initial.builder ++ take l.len (drop l.offset l.self)
