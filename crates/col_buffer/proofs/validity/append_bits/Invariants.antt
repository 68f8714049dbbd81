use Rattle.std.proofs.Common.{◌≡◌, ◌+◌, ◌*◌, ◌<◌, ◌≤◌, ℕ, Some, length}
use Rattle.std.specs.Option.{option_map}
use Rattle.col_buffer.specs.Validity.{valid_at}
use Rattle.col_buffer.proofs.validity.append_bits.Given as goal

-- the bits that are written, and those before them
abbrev pub invariant-loop-at : goal.invariant-loop-at
invariant-loop-at l = record {
  reach : l.place + l.at * 64 ≤ 64 * length l.words.items;
  here : (k : ℕ) → k < l.len → k < 64 * l.at → valid_at (Some l.words.items) (l.place + k) ≡ valid_at (option_map (λ words. words.now) l.from) (l.start + k);
  others : (j : ℕ) → j < l.place → valid_at (Some l.words.items) j ≡ valid_at (Some l.initial.words.items) j;
}
