-- What runs tell, in the words of the program and of the walk.
pub mod Headline
pub mod Tells
pub mod PortActs
pub mod ShownActs
pub mod WalkActs
pub mod Runs
pub mod RunsAlike
pub mod Replays
pub mod Grids
pub mod Walked
