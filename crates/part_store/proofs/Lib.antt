pub mod Queueing
pub mod Moving
pub mod Running
pub mod Told
