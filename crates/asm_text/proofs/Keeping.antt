-- What holds of the names and of what is built behind each line.
pub mod Held
pub mod HeldLines
pub mod HeldLists
pub mod HeldNames
pub mod HeldSteps
pub mod HeldTexts
pub mod Formed
pub mod Given
pub mod Tables
pub mod Counts
pub mod First
pub mod Pairing
