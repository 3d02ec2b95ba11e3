-- What a run leaves, in the words of the walk.
pub mod Telling
pub mod Whole
pub mod Wholly
pub mod Quieting
