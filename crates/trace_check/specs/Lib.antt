pub mod Traces
pub mod Replays
pub mod Recorded
