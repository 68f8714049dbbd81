use Rattle.std.proofs.Common.{sym}
use Rattle.col_token.proofs.LineLemmas.{lines_of-found, lines_of-absent}
use Rattle.col_token.proofs.lines.first_line.Goals as goal

pub returns-in-Some-clause-cut : goal.returns-in-Some-clause-cut
returns-in-Some-clause-cut c = lines_of-found c.args.text.now c.in-Some.end (sym c.in-Some.ensures.place)

pub returns-in-None-clause-cut : goal.returns-in-None-clause-cut
returns-in-None-clause-cut c = lines_of-absent c.args.text.now c.requires.filled (sym c.in-None.ensures.place)
