pub mod Operators
pub mod Digits
pub mod Outside
pub mod Plain
pub mod Past
pub mod Memory
pub mod Items
pub mod Letters
