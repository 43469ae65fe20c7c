pub mod NamedPlaces
pub mod RowsRead
pub mod Loops
pub mod Traces
pub mod Outcomes
pub mod Performed
