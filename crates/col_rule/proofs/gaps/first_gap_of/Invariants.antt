use Rattle.std.proofs.Common.{◌≡◌, ◌+◌, ◌-◌, Some}
use Rattle.std.specs.Option.{option_map}
use Rattle.col_rule.specs.Rules.{first_gap}
use Rattle.col_rule.proofs.gaps.first_gap_of.Given as goal

-- no place so far
abbrev pub invariant-loop-i : goal.invariant-loop-i
invariant-loop-i l =
    let source = option_map (λ words. words.now) l.source in
    first_gap source (l.offset + l.i) (Some l.kept) l.i (l.len - l.i) ≡ first_gap source l.offset (Some l.kept) 0 l.len
