-- What the text of a job, of an assembly or of an input section comes to, and that it is one thing.
pub mod AssembliesOnce
pub mod JobTexts
pub mod Jobs
pub mod JobsOnce
pub mod Markers
pub mod PlainTexts
pub mod ReadAgain
pub mod AnswersOnce
pub mod Generated
pub mod BeforeTrace
pub mod Benches
pub mod Bounds
