pub mod Names
pub mod Rule
pub mod Keeps
pub mod After
