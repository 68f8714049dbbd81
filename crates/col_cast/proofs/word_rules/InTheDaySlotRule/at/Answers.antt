use Rattle.col_model.specs.Column.{day_values}
use Rattle.col_cast.proofs.WordRuleLaws.{slot_within}
use Rattle.col_cast.proofs.word_rules.InTheDaySlotRule.at.Goals as goal

pub returns-clause-value : goal.returns-clause-value
returns-clause-value g c =
    slot_within day_values (g.U.Word.reading c.reread-one.result.word) c.reread-one.result.valid c.is_in_the_day-within.result _ c.reread-one.ensures.value
    c.is_in_the_day-within.ensures.within

pub returns-clause-kept : goal.returns-clause-kept
returns-clause-kept g c =
    slot_within day_values (g.U.Word.reading c.reread-one.result.word) c.reread-one.result.kept c.is_in_the_day-within.result _ c.reread-one.ensures.kept
    c.is_in_the_day-within.ensures.within
