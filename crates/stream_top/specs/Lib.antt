pub mod Codes
pub mod Lines
pub mod Calls
pub mod Causes
