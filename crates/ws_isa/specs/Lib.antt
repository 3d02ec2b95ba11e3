-- What a reader has to believe: Walk, Operations, Sound, Open, Answer.
-- Standing, Listed and Shows serve the proof of the code alone: what it holds while it walks.
pub mod Image
pub mod Formed
pub mod Shown
pub mod View
pub mod Samples
pub mod Walk
pub mod Operations
pub mod Sound
pub mod Open
pub mod Checking
pub mod Standing
pub mod Listed
pub mod Shows
pub mod Answer
