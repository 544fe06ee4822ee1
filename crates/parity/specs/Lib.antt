pub mod Codes
pub mod Framings
pub mod Parities
