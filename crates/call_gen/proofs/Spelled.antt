-- Where the blocks, cells and calls of the spelled graph stand.
pub mod Placing
pub mod Places
pub mod Planning
pub mod Slots
pub mod Sorts
pub mod Facts
pub mod Covering
pub mod Counting
pub mod Tallying
pub mod Making
