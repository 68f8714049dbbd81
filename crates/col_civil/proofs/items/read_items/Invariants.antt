use Rattle.std.proofs.Common.{◌≡◌, ◌<◌, ◌^◌, length, Ok, true}
use Rattle.col_logical.specs.Logical.{lie_in_the_day}
use Rattle.col_civil.specs.Made.{slots_of_items}
use Rattle.col_civil.proofs.items.read_items.Given as goal

-- the slots written are those of the items that came
abbrev pub invariant-loop-item : goal.invariant-loop-item
invariant-loop-item g l =
    record {
      row : l.row ≡ length l.builder;
      short : l.row < 2 ^ 32;
      slots : slots_of_items (g.R.ItemRule.read l.rule) l.yielded ≡ Ok l.builder;
      day : lie_in_the_day (g.R.ItemRule.dtype l.rule) l.builder ≡ true;
    }
