-- A draft with no-ops added: which instruction is which, and what triggers each no-op.
pub mod GrownEdges
pub mod GrownForm
pub mod GrownOf
pub mod GrownOrigin
pub mod GrownRows
pub mod GrownSources
pub mod GrownTables
pub mod GrownTriggers
