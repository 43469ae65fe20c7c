pub mod Gathers
pub mod StepLaws
pub mod WalkLaws
