use Rattle.std.proofs.Common.{◌≡◌, length, rules}
use Rattle.col_token.specs.Tokens.{words_in}
use Rattle.col_text.proofs.LengthLemmas.{lengths-end}
use Rattle.col_text.proofs.slots.read_slots.Goals as goal

pub returns-clause-lengths : goal.returns-clause-lengths
returns-clause-lengths g c =
    let done : length c.slots.rest.now ≡ 0 = search rules in
    lengths-end c.slots.begun c.slots.lengths.items c.close.new.lengths.items c.slots.rest.now (words_in c.args.line.now) done
    c.in_ok-close.ensures.lengths c.slots.invariant.lengths
