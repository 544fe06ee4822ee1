pub mod Coders
pub mod Gathered
pub mod Outcomes
pub mod Passed
pub mod Rebuilt
