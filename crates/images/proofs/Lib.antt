pub mod TablePage
pub mod Ranges
pub mod KindRanges
pub mod Carrying
pub mod Placed
pub mod Moving
