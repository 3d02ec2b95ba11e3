pub mod Short
pub mod Joined
pub mod Samples
pub mod Keeps
pub mod Found
pub mod IsShort
