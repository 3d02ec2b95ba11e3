-- Slots: sets of held slots, the paths that hold them, and closed tables of waves.
pub mod Members
pub mod Held
pub mod Look
pub mod Entries
pub mod Come
pub mod Coming
pub mod Closed
pub mod Firsts
pub mod Rounds
pub mod Steps
pub mod Suits
pub mod Whole
pub mod Breach
pub mod Hanging
pub mod Spreads
pub mod Pads
