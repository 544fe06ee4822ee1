mod Climb
mod Depth
pub mod Framed
pub mod Joining
pub mod Standing
