pub mod Lowered
pub mod Building
pub mod Views
pub mod Keeps
pub mod Sizes
