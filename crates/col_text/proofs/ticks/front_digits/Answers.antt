use Rattle.std.proofs.Common.{◌≡◌, ◌<◌, ◌+◌, get_or, arith}
use Rattle.std.specs.Char.{digit_value}
use Rattle.std.proofs.lemmas.Bool.Decides.{nat_tests}
use Rattle.std.proofs.lemmas.Int.Digits.{digits_value_more, digits_more}
use Rattle.col_text.proofs.TickLemmas.{digit_below, below_top}
use Rattle.col_text.proofs.ticks.front_digits.Goals as goal

pub overflow_mul-value : goal.overflow_mul-value
overflow_mul-value c =
    omega (arith, digit_below _ 0 _ c.loop-count.invariant.small (omega arith), below_top (c.loop-count.count + 1) (omega arith))

pub overflow_add-value : goal.overflow_add-value
overflow_add-value c =
    let digit : c.from.result < 10 = grind (arith, nat_tests) in
    omega (arith, digit_below _ _ _ c.loop-count.invariant.small digit, below_top (c.loop-count.count + 1) (omega arith))

pub loop-count-preserved : goal.loop-count-preserved
loop-count-preserved c =
    let digit : digit_value (get_or c.args.text.now c.loop-count.count 0) ≡ c.from.result = grind (arith, nat_tests) in
    let small : digit_value (get_or c.args.text.now c.loop-count.count 0) < 10 = c.if-is_ascii_digit.ensures.bound in
    record {
      few = omega arith;
      within = omega arith;
      digits = digits_more 10 c.args.text.now _ c.loop-count-test.true c.loop-count.invariant.digits small;
      value = omega (arith, digits_value_more 10 c.args.text.now _ c.loop-count-test.true, digit, c.loop-count.invariant.value);
      small = digit_below _ _ _ c.loop-count.invariant.small (omega (arith, digit, small));
    }
