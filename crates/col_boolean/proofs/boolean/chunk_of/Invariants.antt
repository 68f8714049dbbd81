use Rattle.std.proofs.Common.{◌≡◌, ◌++◌, drop}
use Rattle.col_chunk.specs.Chunks.{word_slots}
use Rattle.col_boolean.specs.Bits.{truth}
use Rattle.col_boolean.proofs.boolean.chunk_of.Given as goal

-- what is written and what is left make the whole
abbrev pub invariant-loop-value : goal.invariant-loop-value
invariant-loop-value l =
    l.builder ++ word_slots truth (drop l.value-index l.values) ≡ word_slots truth l.values
