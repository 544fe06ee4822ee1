pub mod Blocks
pub mod Causes
pub mod Rolls
