pub mod Writes
pub mod WatchLaws
pub mod WatchClaims
pub mod Rows
