use Rattle.std.proofs.Common.{◌∙◌, sym, ap, rules, arith, FitsSigned, w64, to_z-of_z}
use Rattle.std.specs.Str.Parse.{starts_with_minus}
use Rattle.col_text.specs.Numbers.{behind_sign}
use Rattle.col_text.proofs.FrontLemmas.{front_tick}
use Rattle.col_text.proofs.ticks.front_tick.Goals as goal

pub returns-in-Some : goal.returns-in-Some
returns-in-Some c =
    let fits : FitsSigned w64 c.in-Some.tick = search (rules, c.signed_tick.type_inv) in
    let back = to_z-of_z fits in
    let d = c.front_digits-value in
    record {
      read = rw (back, c.split_at.ensures.back) (front_tick c.args.line.now c.split_sign-minus.result.1.now c.split_sign-minus.result.0 d.result.1 d.result.0 c.in-Some.tick (record {
        minus_is = c.split_sign-minus.ensures.minus ∙ ap starts_with_minus c.skip_blanks-text.ensures.rest;
        behind = c.split_sign-minus.ensures.behind ∙ ap behind_sign c.skip_blanks-text.ensures.rest;
        few = d.ensures.few;
        some = omega arith;
        within = d.ensures.within;
        digits = d.ensures.digits;
        value = d.ensures.value;
        end = rw c.split_at.ensures.back at (sym c.ends_token.ensures.end ∙ c.if-not-ends_token.false);
        fits = sym c.in-Some.is ∙ c.signed_tick.ensures.value;
      }));
    }
