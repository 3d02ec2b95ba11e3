pub mod Lines
pub mod Making
pub mod Telling
pub mod Led
pub mod Once
pub mod Written
