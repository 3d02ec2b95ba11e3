pub mod Bounds
pub mod Charges
pub mod Compiled
pub mod Passed
pub mod Prepared
pub mod Small
pub mod Opened
