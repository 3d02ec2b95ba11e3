-- A text whose lines spell the items of an image is read as it, and as no other.
pub mod Accepts
pub mod Completes
pub mod Inside
pub mod Items
pub mod Labels
pub mod Resolved
pub mod Resolves
pub mod Told
pub mod TextTold
pub mod SampleTexts
