pub mod Planning
mod OfItems
mod Waits
mod Drawing
pub mod Walking
pub mod OfGraphs
mod Weighing
mod Tables
