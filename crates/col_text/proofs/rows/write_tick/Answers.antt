use Rattle.std.proofs.Common.{◌≡◌, ◌-◌, ◌+◌, [], ◌++◌, ◌∷◌, ◌∙◌, ap, arith, to_z-of_z}
use Rattle.std.proofs.lemmas.Fmt.{length-decimal-le}
use Rattle.std.proofs.lemmas.List.{drop-set, drop-set-lt}
use Rattle.col_text.proofs.AnswerLemmas.{behind_digits, text_of-natural, text_of-negative}
use Rattle.col_text.proofs.rows.write_tick.Goals as goal

pub write_digits-start-requires : goal.write_digits-start-requires
write_digits-start-requires c =
    (omega (arith, length-decimal-le 19 c.unsigned_abs.result (omega arith) (omega arith) (omega arith)), omega arith)

pub overflow_sub-line : goal.overflow_sub-line
overflow_sub-line c =
    omega (arith, length-decimal-le 19 c.unsigned_abs.result (omega arith) (omega arith) (omega arith))

pub overflow_sub-result : goal.overflow_sub-result
overflow_sub-result c =
    omega (arith, length-decimal-le 19 c.unsigned_abs.result (omega arith) (omega arith) (omega arith))

pub returns-then-tick-ge0-clause-written : goal.returns-then-tick-ge0-clause-written
returns-then-tick-ge0-clause-written c =
    let back = to_z-of_z c.ranges.tick in
    rw (c.write_digits-start.ensures.written, c.requires.end, c.unsigned_abs.ensures.value, back)
    (ap (λ text. text ++ 10 ∷ []) (text_of-natural c.args.tick (rw back at c.if-tick-ge0.true)))

pub returns-then-tick-ge0-clause-end : goal.returns-then-tick-ge0-clause-end
returns-then-tick-ge0-clause-end c =
    let w = c.write_digits-start in
    behind_digits w.new.buf _ _ w.result 20 w.ensures.start w.ensures.written ∙ c.requires.end

pub returns-clause-written : goal.returns-clause-written
returns-clause-written c =
    let w = c.write_digits-start in
    let long = length-decimal-le 19 c.unsigned_abs.result (omega arith) (omega arith) (omega arith) in
    let e : w.result - 1 + 1 ≡ w.result = omega arith in
    let back = to_z-of_z c.ranges.tick in
    rw (drop-set w.new.buf (w.result - 1) 45 (omega arith), e, w.ensures.written, c.requires.end, c.unsigned_abs.ensures.value, back)
    (ap (λ text. text ++ 10 ∷ []) (text_of-negative c.args.tick (rw back at c.if-tick-ge0.false)))

pub returns-clause-end : goal.returns-clause-end
returns-clause-end c =
    let w = c.write_digits-start in
    drop-set-lt 20 w.new.buf (w.result - 1) 45 (omega arith)
    ∙ behind_digits w.new.buf _ _ w.result 20 w.ensures.start w.ensures.written ∙ c.requires.end
