-- A match and an issue keep a state fit, and each enabled event can be made.
pub mod MatchKept
pub mod IssueKept
pub mod BufferKept
pub mod Ports
pub mod Same
pub mod Making
pub mod Reachable
pub mod Reached
pub mod Passing
pub mod Settling
pub mod Settled
pub mod States
