mod Asked
mod Budgets
pub mod Caused
mod Ending
