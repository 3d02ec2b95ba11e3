pub mod Parted
pub mod Spelled
pub mod Along
pub mod Ruling
