pub mod Assemblies
pub mod Inputs
pub mod Once
mod Empties
