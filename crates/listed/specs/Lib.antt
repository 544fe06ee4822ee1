pub mod Exact
pub mod Listeds
pub mod Walking
pub mod Exactly
