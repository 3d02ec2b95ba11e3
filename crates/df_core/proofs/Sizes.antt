-- Room for what is left to happen, and lists that have it.
pub mod Rooms
pub mod Steady
pub mod Trays
pub mod Fine
pub mod TokenLists
pub mod Sends
