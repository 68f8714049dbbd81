use Rattle.std.proofs.Common.{◌≡◌, ◌++◌, ◌+◌, drop, length}
use Rattle.col_model.specs.Value.{on_slot}
use Rattle.col_model.specs.ColumnCalls.{first_lost}
use Rattle.col_chunk.specs.Chunks.{joined}
use Rattle.col_rule.specs.Rules.{mapped}
use Rattle.col_rule.specs.Rules.{or_later}
use Rattle.col_rule.proofs.array.change_chunks.Given as goal

-- what is done and what is left make the whole
abbrev pub invariant-loop-chunk : goal.invariant-loop-chunk
invariant-loop-chunk g l =
    let value = g.R.SlotRule.value l.rule in
    let kept = on_slot (g.R.SlotRule.kept l.rule) in
    let left = joined (λ chunk. chunk) (drop l.chunk-index l.chunks) in
    record {
      slots : l.builder ++ mapped value left ≡ mapped value (joined (λ chunk. chunk) l.chunks);
      lost : or_later l.lost l.start (first_lost kept 0 left) ≡ first_lost kept 0 (joined (λ chunk. chunk) l.chunks);
      start : l.start + length left ≡ l.len;
    }
