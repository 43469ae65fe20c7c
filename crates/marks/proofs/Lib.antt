pub mod NumberTests
pub mod MarkWalk
pub mod UsualOperands
