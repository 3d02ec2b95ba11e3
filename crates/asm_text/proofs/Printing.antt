-- The printed form of an image spells its items.
pub mod Again
pub mod AgainLines
pub mod Says
pub mod Shown
