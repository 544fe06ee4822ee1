pub mod Carried
pub mod Lawful
pub mod Orders
pub mod Search
mod Shift
