pub mod Loading
pub mod Running
pub mod Sizes
