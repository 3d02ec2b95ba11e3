-- The walk of the spelled graph goes along with that of the given graph.
pub mod Agreeing
pub mod Alongside
pub mod Calling
pub mod Landing
pub mod Leaves
pub mod Returning
pub mod Showing
pub mod Standing
pub mod Spilling
pub mod Visible
pub mod Kept
pub mod Paths
