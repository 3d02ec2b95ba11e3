pub mod Spelled
pub mod Keeps
pub mod Visible
pub mod Plans
pub mod Reached
pub mod Part
pub mod Sizes
pub mod Charged
