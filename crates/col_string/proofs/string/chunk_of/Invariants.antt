use Rattle.std.proofs.Common.{◌≡◌, ◌++◌, drop}
use Rattle.col_string.specs.Texts.{bytes_slots}
use Rattle.col_string.proofs.string.chunk_of.Given as goal

-- what is written and what is left make the whole
abbrev pub invariant-loop-value : goal.invariant-loop-value
invariant-loop-value l =
    l.builder ++ bytes_slots (λ item. item.now) (drop l.value-index l.values) ≡ bytes_slots (λ item. item.now) l.values
