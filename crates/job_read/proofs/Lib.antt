pub mod Jobs
pub mod Programs
pub mod TextAnswers
