pub mod Owing
pub mod Ends
pub mod Verdicts
pub mod Solo
pub mod Finishes
