-- What the code keeps while it makes a draft, against the definitions.
pub mod Listed
pub mod Keepings
pub mod Hanging
pub mod Making
pub mod Sharers
pub mod Marked
pub mod Numberings
