pub mod Pages
pub mod Ranges
pub mod Moving
pub mod Claims
