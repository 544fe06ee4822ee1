mod Erasing
mod Indices
mod Making
mod Mending
mod Picking
mod Reading
mod Unframing
