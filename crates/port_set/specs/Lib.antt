pub mod Lines
pub mod Ports
pub mod Slots
pub mod Tape
