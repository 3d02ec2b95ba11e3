-- A whole draft: its blocks, edges and numbers, its shape, and that it is open to notes.
pub mod Blocks
pub mod Number
pub mod Drafts
pub mod SuitLines
pub mod OpsIn
pub mod Starts
pub mod TailLines
pub mod Edges
pub mod OpenArms
pub mod ShortLists
pub mod Few
pub mod Waiting
pub mod AllInstrs
pub mod Shape
pub mod MoreShapes
pub mod OpenDrafts
