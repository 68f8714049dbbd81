mod AnswerLaws
mod DayLaws
mod UnitLaws
mod WordReadings
