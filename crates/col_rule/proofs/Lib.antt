pub mod AnswerLaws
pub mod ArrayLaws
pub mod BitLaws
pub mod RowLaws
pub mod RuleLaws
