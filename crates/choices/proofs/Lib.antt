pub mod SetBytes
pub mod Gathered
pub mod Exploring
pub mod Turns
pub mod Narrowing
pub mod BusLaws
