pub mod Tests
pub mod Numbers
pub mod Faults
pub mod Programs
pub mod Codes
pub mod Shapes
pub mod SixLayouts
