pub mod Behind
pub mod Fronts
pub mod Numbers
pub mod Sizes
pub mod Told
pub mod Whole
