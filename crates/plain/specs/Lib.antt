pub mod Exact
pub mod Plains
pub mod Exactly
