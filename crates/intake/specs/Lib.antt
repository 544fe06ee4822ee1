pub mod Classes
pub mod Steps
