use Rattle.std.proofs.Common.{◌≡◌, ◌+◌, ◌*◌, ◌<◌, ℕ, Some, length}
use Rattle.col_buffer.specs.Validity.{valid_at}
use Rattle.col_buffer.proofs.joining.copy_bits.Given as goal

-- the bits so far
abbrev pub invariant-loop-at : goal.invariant-loop-at
invariant-loop-at l = record {
  count : length l.bits.items ≡ l.at;
  same : (k : ℕ) → k < l.len → k < 64 * l.at → valid_at (Some l.bits.items) k ≡ valid_at (Some l.words) (l.offset + k);
}
