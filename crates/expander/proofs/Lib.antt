pub mod PartSizes
pub mod StartTable
pub mod JoinedParts
pub mod Outcomes
pub mod OpcodeNumbers
