pub mod Reading
pub mod Told
pub mod Calling
pub mod Several
