pub mod Choices
pub mod Names
