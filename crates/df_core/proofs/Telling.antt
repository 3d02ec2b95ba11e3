-- How many instances have fired, and what a state at rest, at the budget or at a fault tells of the walk.
pub mod Counting
pub mod Bounds
pub mod Waves
pub mod Firings
pub mod OpsCount
pub mod OpsPassed
pub mod Ends
pub mod Progress
pub mod Place
pub mod Saying
pub mod ShownFit
pub mod Owing
pub mod Firsts
