pub mod ReadRoom
pub mod LoadLaws
pub mod RunLaws
pub mod TextSizes
