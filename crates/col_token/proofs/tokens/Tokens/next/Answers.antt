use Rattle.std.proofs.Common.{◌∙◌, sym, rules}
use Rattle.col_token.proofs.PlaceLemmas.{left-cut, left-none, left-next_line}
use Rattle.col_token.proofs.tokens.Tokens.next.Goals as goal

pub returns-in-Some-clause-first : goal.returns-in-Some-clause-first
returns-in-Some-clause-first c =
    sym c.self.view_is ∙ sym c.loop-text.invariant.same
    ∙ left-cut c.loop-text.self-inside.start c.loop-text.self-inside.line c.loop-text.self-inside.rest_start
    c.loop-text.self-inside.words.now c.in-Some.text.now c.in-Some.words.now c.loop-text.self-inside.rest.now
    c.in-Some.ensures.first c.in-Some.ensures.place

pub returns-then-is_empty-clause-none : goal.returns-then-is_empty-clause-none
returns-then-is_empty-clause-none c =
    sym c.self.view_is ∙ sym c.loop-text.invariant.same
    ∙ left-none c.loop-text.self-inside.start c.loop-text.self-inside.line c.loop-text.self-inside.rest_start
    c.loop-text.self-inside.words.now c.loop-text.self-inside.rest.now c.in_default.ensures.none (search rules)

pub returns-then-is_empty-clause-ended : goal.returns-then-is_empty-clause-ended
returns-then-is_empty-clause-ended c =
    left-none c.loop-text.self-inside.start c.loop-text.self-inside.line c.loop-text.self-inside.rest_start
    c.loop-text.self-inside.words.now c.loop-text.self-inside.rest.now c.in_default.ensures.none (search rules)

pub loop-text-preserved : goal.loop-text-preserved
loop-text-preserved c = record {
  same =
      rw c.content-self-inside.ensures.content (
      left-next_line c.loop-text.self-inside.start c.loop-text.self-inside.line c.loop-text.self-inside.rest_start
      c.loop-text.self-inside.words.now c.loop-text.self-inside.rest.now c.first_line.result.0.now c.first_line.result.1.now
      c.in_default.ensures.none c.first_line.ensures.cut c.first_line.ensures.rest)
      ∙ c.loop-text.invariant.same;
  lines_within = search rules;
  words_within = search rules;
  rest_within = search rules;
}
