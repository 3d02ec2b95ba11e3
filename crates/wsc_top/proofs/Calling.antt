-- The words of a call, the answer to them, and how the call ends.
pub mod Calls
pub mod CallEnds
pub mod Ends
pub mod Due
pub mod Outcomes
pub mod Tasks
