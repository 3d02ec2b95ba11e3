-- The parts that a core keeps, and the state for which they stand, event by event.
pub mod StandsMatch
pub mod StandsIssue
pub mod Arriving
pub mod Moving
pub mod Issuing
pub mod Driving
pub mod Stepping
pub mod Quietly
pub mod Opening
pub mod Turning
pub mod Nexts
pub mod Spilled
pub mod Look
pub mod Placed
pub mod Found
