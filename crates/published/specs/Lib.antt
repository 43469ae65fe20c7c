pub mod Published
pub mod Claims
pub mod Reading
pub mod Table
pub mod Passes
pub mod Printing
