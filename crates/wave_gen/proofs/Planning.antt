-- Plans, the drafts that they make, and plans that are drawn from a graph.
pub mod Planned
pub mod Samples
pub mod Rows
pub mod More
pub mod Opening
pub mod IsDrawn
pub mod DrawnPlans
pub mod SampleDrawn
pub mod SteeredNames
pub mod LeadingAhead
