pub mod Sections
pub mod Assembly
pub mod Texts
pub mod Reads
