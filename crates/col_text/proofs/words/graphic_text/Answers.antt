use Rattle.std.proofs.Common.{sym}
use Rattle.col_text.proofs.TextLemmas.{IsUtf8-graphic}
use Rattle.col_text.proofs.words.graphic_text.Goals as goal

pub unreachable-requires : goal.unreachable-requires
unreachable-requires c =
    c.in-Err.ensures.cases.0
    (IsUtf8-graphic c.args.token.now (sym c.if-not-are_graphic.ensures.graphic))
