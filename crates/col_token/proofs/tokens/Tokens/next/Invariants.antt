use Rattle.std.proofs.Common.{◌≡◌, ◌≤◌, ◌+◌, length}
use Rattle.col_token.specs.Places.{longest_text}
use Rattle.col_token.proofs.PlaceLemmas.{left}
use Rattle.col_token.proofs.tokens.Tokens.next.Given as goal

abbrev pub invariant-loop-text : goal.invariant-loop-text
invariant-loop-text l = record {
  same : left l.self-inside.start l.self-inside.line l.self-inside.words.now l.self-inside.rest_start l.self-inside.rest.now
      ≡ left l.initial.self-inside.start l.initial.self-inside.line l.initial.self-inside.words.now l.initial.self-inside.rest_start l.initial.self-inside.rest.now;
  lines_within : l.self-inside.line + length l.self-inside.rest.now ≤ longest_text;
  words_within : l.self-inside.start + length l.self-inside.words.now ≤ longest_text;
  rest_within : l.self-inside.rest_start + length l.self-inside.rest.now ≤ longest_text;
}

abbrev pub decreases-loop-text : goal.decreases-loop-text
decreases-loop-text l = length l.self-inside.rest.now
