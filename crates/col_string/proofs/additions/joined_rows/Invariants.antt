use Rattle.std.proofs.Common.{◌≡◌}
use Rattle.col_string.specs.Texts.{joined_slots}
use Rattle.col_string.proofs.additions.joined_rows.Given as goal

-- the rows so far are written
abbrev pub invariant-loop-row : goal.invariant-loop-row
invariant-loop-row g l = l.builder ≡ joined_slots l.left l.right l.row
