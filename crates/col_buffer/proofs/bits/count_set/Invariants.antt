use Rattle.std.proofs.Common.{◌≡◌, ◌*◌, ◌-◌, ◌≤◌, Some}
use Rattle.col_buffer.specs.Validity.{valid_count}
use Rattle.col_buffer.proofs.bits.count_set.Given as goal

-- what is counted so far
abbrev pub invariant-loop-at : goal.invariant-loop-at
invariant-loop-at l = l.count ≡ valid_count (Some l.words) l.offset (l.at * 64)

abbrev pub invariant-loop-place : goal.invariant-loop-place
invariant-loop-place l = record {
  behind : l.offset ≤ l.place;
  counted : l.count ≡ valid_count (Some l.words) l.offset (l.place - l.offset);
}
