-- Cells and their queues: order, first entries, and what the walk does to a cell.
pub mod Keys
pub mod Cells
pub mod Fronts
pub mod Lines
pub mod Opened
pub mod Places
pub mod Ordered
pub mod Ops
pub mod Times
pub mod Standing
