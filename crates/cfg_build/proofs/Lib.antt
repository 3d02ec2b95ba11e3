mod Rows
mod SizeRows
pub mod CodeSteps
pub mod Lists
pub mod Emitted
pub mod Bounds
pub mod CodeProcs
pub mod Stand
pub mod Values
pub mod Simulation
pub mod Kept
pub mod Places
pub mod Labels
pub mod Edges
pub mod Shaped
pub mod InRange
pub mod Rules
pub mod Heights
pub mod Totals
pub mod FewArrays
pub mod FewTurns
pub mod Sized
pub mod OfPrograms
