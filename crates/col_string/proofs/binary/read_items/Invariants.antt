use Rattle.std.proofs.Common.{◌≡◌, ◌<◌, ◌^◌, length}
use Rattle.col_string.specs.Texts.{optional_slots}
use Rattle.col_string.proofs.binary.read_items.Given as goal

-- the slots written are those of the items that came, and there is room for one more
abbrev pub invariant-loop-item : goal.invariant-loop-item
invariant-loop-item g l =
    record {
      count : l.count ≡ length l.yielded;
      short : l.count < 2 ^ 32;
      slots : l.builder ≡ optional_slots (λ item. item.now) l.yielded;
    }
