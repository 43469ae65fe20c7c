pub mod Watches
pub mod Claims
pub mod Noting
