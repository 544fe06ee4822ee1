pub mod Whole
pub mod Views
pub mod Example
