pub mod Gathering
pub mod Bus
