use Rattle.std.proofs.Common.{◌≡◌, ◌++◌, drop}
use Rattle.col_string.specs.Texts.{extended_slots}
use Rattle.col_string.proofs.additions.extended_rows.Given as goal

-- what is written and what is left make the whole
abbrev pub invariant-loop-row : goal.invariant-loop-row
invariant-loop-row g l = l.builder ++ extended_slots l.bytes (drop l.row l.chunk) ≡ extended_slots l.bytes l.chunk
