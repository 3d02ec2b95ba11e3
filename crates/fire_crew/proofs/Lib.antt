pub mod Rights
pub mod Paid
pub mod Endings
pub mod Fronts
pub mod Phases
pub mod Telling
pub mod Asking
pub mod Alone
