mod DayLaws
mod RowLaws
mod SlotLaws
mod WordRuleLaws
