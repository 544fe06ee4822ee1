pub mod Counting
pub mod Joined
pub mod Joining
pub mod Parting
mod Refused
pub mod Starting
