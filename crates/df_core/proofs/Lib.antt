pub mod Walked
pub mod Keeping
pub mod Telling
pub mod Parts
pub mod Sizes
