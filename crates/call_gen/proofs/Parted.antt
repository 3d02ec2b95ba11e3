-- The part of a graph that its walk may come to.
pub mod PartMaking
pub mod PartPlaces
pub mod PartReached
pub mod PartRules
pub mod PartSame
pub mod PartSizing
pub mod PartWalk
pub mod Marking
