use Rattle.std.proofs.Common.{sym}
use Rattle.std.specs.Option.{option_map}
use Rattle.col_rule.proofs.RuleLaws.{no_gap}
use Rattle.col_rule.proofs.gaps.first_gap.Goals as goal

pub returns-in-None : goal.returns-in-None
returns-in-None c = rw c.in-None.is (record { row = sym (no_gap (option_map (λ words. words.now) c.args.source) c.args.offset 0 c.args.len) })
