pub mod Reads
pub mod Marks
