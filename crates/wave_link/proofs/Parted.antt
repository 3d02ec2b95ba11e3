-- The image of a draft by its parts: blocks, edges, numbers and notes.
pub mod Parts
pub mod Blocks
pub mod Edges
pub mod Fewer
pub mod Made
pub mod Numbers
pub mod Noted
pub mod Ops
pub mod Counting
pub mod Replicate
pub mod Sampled
