use Rattle.std.proofs.Common.{◌≡◌, ◌<◌, ◌^◌, length}
use Rattle.col_chunk.specs.Items.{option_slots}
use Rattle.col_boolean.specs.Bits.{truth}
use Rattle.col_boolean.proofs.boolean.read_items.Given as goal

-- the slots written are those of the items that came, and there is room for one more
abbrev pub invariant-loop-item : goal.invariant-loop-item
invariant-loop-item g l =
    record {
      count : l.count ≡ length l.yielded;
      short : l.count < 2 ^ 32;
      slots : l.builder ≡ option_slots truth l.yielded;
    }
