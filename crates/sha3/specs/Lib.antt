pub mod Fips202
pub mod Examples
pub mod Squeezing
