-- Code made from its end: slots that wait for a name, names that are wanted, and tokens that come.
pub mod Slots
pub mod Turns
pub mod Carrying
pub mod Valid
pub mod Wiring
pub mod Ends
pub mod Fronts
pub mod Flow
pub mod WalkShape
pub mod Steps
pub mod Tokens
pub mod Passes
