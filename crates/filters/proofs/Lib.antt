pub mod RefusalLaws
pub mod FilterLaws
