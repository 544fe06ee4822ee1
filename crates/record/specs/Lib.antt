pub mod Fields
pub mod Joins
pub mod Sound
pub mod Views
