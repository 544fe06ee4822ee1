pub mod Example
pub mod First
