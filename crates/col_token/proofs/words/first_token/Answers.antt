use Rattle.std.proofs.Common.{ap, sym, arith, rules, length}
use Rattle.col_token.proofs.WordLemmas.{first_word, no_words, word_within, without_blanks-le}
use Rattle.col_token.proofs.words.first_token.Goals as goal

pub returns-then-is_empty-clause-none : goal.returns-then-is_empty-clause-none
returns-then-is_empty-clause-none c = no_words c.args.line.now c.skip_blanks-words.result.now (sym c.skip_blanks-words.ensures.rest) (search rules)

pub returns-clause-first : goal.returns-clause-first
returns-clause-first c =
    let word = first_word c.args.line.now c.skip_blanks-words.result.now (sym c.skip_blanks-words.ensures.rest) (search rules) in
    rw (c.cut_word.ensures.word, c.cut_word.ensures.rest) word.words

pub returns-clause-filled : goal.returns-clause-filled
returns-clause-filled c =
    let word = first_word c.args.line.now c.skip_blanks-words.result.now (sym c.skip_blanks-words.ensures.rest) (search rules) in
    rw c.cut_word.ensures.word word.filled

pub returns-clause-shorter : goal.returns-clause-shorter
returns-clause-shorter c =
    let word = first_word c.args.line.now c.skip_blanks-words.result.now (sym c.skip_blanks-words.ensures.rest) (search rules) in
    let within = without_blanks-le c.args.line.now in
    rw c.cut_word.ensures.rest (omega (arith, word.shorter, within, ap length c.skip_blanks-words.ensures.rest))

pub returns-clause-within : goal.returns-clause-within
returns-clause-within c =
    rw (c.cut_word.ensures.word, c.cut_word.ensures.rest) (
    word_within c.args.line.now c.skip_blanks-words.result.now (sym c.skip_blanks-words.ensures.rest))
