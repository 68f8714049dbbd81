pub mod SlotLaws
pub mod BitLaws
pub mod JoiningLaws
