-- What the core asks of a walk, and that the walk of a sound image has it.
pub mod Facts
pub mod FromSound
pub mod Made
pub mod OneMaker
pub mod SentTokens
pub mod SlotLists
pub mod Flowing
pub mod Ops
pub mod Pauses
pub mod PortsThere
pub mod Few
pub mod Held
pub mod Effects
pub mod Acts
pub mod Past
pub mod Starts
