mod Announces
mod Arrives
mod Completes
mod Counting
mod Draws
mod Ends
pub mod Enough
mod Shown
mod Held
mod Live
mod Members
mod Moves
mod Since
mod Takes
