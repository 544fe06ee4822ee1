pub mod Faults
pub mod Pieces
pub mod Told
