pub mod Reading
pub mod Gives
pub mod Fronts
pub mod Keywords
pub mod Expressions
pub mod Lists
pub mod Statements
pub mod Programs
