-- The image is formed, keeps the rules on shape and slots, and its walk follows the draft's.
pub mod ShapeOf
pub mod SlotsKept
pub mod Unnoted
pub mod WalksForm
pub mod WalksKept
pub mod WalksOf
pub mod FormedOf
pub mod FormedNotes
pub mod OpenFits
pub mod Whole
