-- Blocks, edges and exits, the facts of instructions, and refusals.
pub mod Blocks
pub mod Edges
pub mod Exits
pub mod Exiting
pub mod Paths
pub mod Shapes
pub mod Refusing
