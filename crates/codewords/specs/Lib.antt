pub mod Codewords
pub mod Claims
pub mod Keys
