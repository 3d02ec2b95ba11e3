-- The spelled graph keeps the rules of graphs and its bounds.
pub mod Ruled
pub mod Cycles
pub mod Crossing
pub mod Arms
pub mod Charging
pub mod Sizing
