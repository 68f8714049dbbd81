use Rattle.std.proofs.Common.{◌≡◌, ◌++◌, take}
use Rattle.std.specs.List.{flat_map}
use Rattle.col_text.specs.Answer.{slot_line}
use Rattle.col_text.proofs.rows.push_chunks.Given as goal

abbrev pub invariant-loop-chunk : goal.invariant-loop-chunk
invariant-loop-chunk g l =
    l.text.items ≡ l.initial.text.items ++ flat_map (λ chunk. flat_map slot_line chunk) (take l.chunk-index l.chunks)
