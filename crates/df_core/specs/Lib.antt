-- What a reader has to believe: Answer, and of the core's calls Cores. The others serve the proof
-- of the code alone: what it holds while it runs.
pub mod Effect
pub mod Core
pub mod Fit
pub mod Ends
pub mod Shown
pub mod Answer
pub mod Told
pub mod Cores
pub mod Stands
pub mod Moves
pub mod Chains
pub mod Finishes
pub mod Flows
pub mod Outdoors
pub mod Partial
pub mod Places
pub mod Ways
pub mod Quiet
pub mod Began
pub mod Codes
pub mod Rights
pub mod Listed
pub mod Matches
