pub mod CodeLaws
pub mod TableLaws
pub mod MapLaws
pub mod ResultLaws
