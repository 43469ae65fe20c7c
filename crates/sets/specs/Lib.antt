pub mod Walk
pub mod Claims
pub mod Addresses
