pub mod LeftLaws
pub mod LineTexts
pub mod ReaderLaws
pub mod InputLaws
pub mod SharedLaws
