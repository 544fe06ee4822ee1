mod Ending
mod Gathering
mod Opening
mod Passing
