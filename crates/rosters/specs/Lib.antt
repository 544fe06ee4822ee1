pub mod Enrolled
pub mod Epochs
pub mod Roster
pub mod Sound
pub mod Switched
pub mod Soundness
