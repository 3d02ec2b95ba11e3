-- Several threads: their runs and the answers to them.
pub mod ThreadAnswers
pub mod ThreadRuns
