use Rattle.std.proofs.Common.{arith, ◌-◌, ◌/◌, ◌%◌, ◌<◌, ◌^◌}
use Rattle.col_buffer.proofs.BitLaws.{push-across, high_again}
use Rattle.col_buffer.proofs.bits.push_word.Goals as goal

pub returns-clause-ok : goal.returns-clause-ok
returns-clause-ok c =
    let at = c.args.place / 64 in
    let kept = c.args.place % 64 in
    let some : 0 < kept = omega (arith, c.if-kept-eq0.false) in
    push-across c.args.words.now.items c.truncate-2.new.self.items c.push-2.new.self.items c.args.place c.args.word at kept c.overlaid.result (c.args.word / 2 ^ (64 - kept)) c.index.result.now
    c.truncate-2.ensures.items (omega arith) some (omega arith) c.requires.reach c.index.ensures c.in_ok-push-2.ensures.items
    c.overlaid.ensures.low c.overlaid.ensures.high (λ j. high_again c.args.word kept j)
