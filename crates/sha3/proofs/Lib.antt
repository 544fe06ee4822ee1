pub mod Absorbing
pub mod Calls
pub mod Examples
pub mod Lanes
pub mod Padding
pub mod Reading
