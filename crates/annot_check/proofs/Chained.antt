-- Links and ripples: what may have been last on the paths inside a wave.
pub mod Kept
pub mod Merging
pub mod Leaving
pub mod Order
pub mod Passing
pub mod Waves
pub mod Visiting
pub mod Unlinked
