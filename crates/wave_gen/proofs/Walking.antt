-- The walk of a graph and the walk of its draft.
pub mod Following
pub mod Tied
pub mod Keeping_walks
pub mod Growth
pub mod Paced
pub mod OutOfTurns
pub mod Endless
pub mod Leaving
pub mod WordsStay
