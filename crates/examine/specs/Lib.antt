pub mod Arrived
pub mod Examines
