-- The lexemes and lines of texts, and of what is printed.
pub mod Bytes
pub mod Cutting
pub mod FormedLexemes
pub mod FormedLines
pub mod Fronts
pub mod Spelt
pub mod Lists
pub mod Runs
pub mod Passes
pub mod Puts
pub mod Walks
pub mod Lined
