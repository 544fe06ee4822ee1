pub mod Blobs
pub mod Exact
pub mod Heads
pub mod Readings
pub mod Written
