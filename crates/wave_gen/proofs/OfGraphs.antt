-- The plans of a graph, wave after wave, and the draft that is made of them.
pub mod Sorted
pub mod Chains
pub mod Buckets
pub mod Turned
pub mod Entries
pub mod Outlined
pub mod Framed
pub mod FitArms
pub mod PlanFacts
pub mod PlanEdges
pub mod PlansMade
pub mod PlansGiving
pub mod PlansOpening
pub mod GraphOpen
pub mod NoNops
pub mod Generated
