pub mod Examples
pub mod Fips180
pub mod Window
pub mod Digests
