-- Links and ripples: the tables of a draft, and the notes that are made of them.
pub mod LinksBlocks
pub mod LinksDraft
pub mod LinksMarked
pub mod LinksNumbered
pub mod LinksPaths
pub mod LinksRun
pub mod LinksTables
