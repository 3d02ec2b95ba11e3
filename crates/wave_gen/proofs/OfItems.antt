-- The items of terms, operations and exits: what they do, which names they read, and what they give.
pub mod Runs
pub mod Terms
pub mod Ops
pub mod Sources
pub mod ReadTerms
pub mod ReadExits
pub mod ReadBlocks
pub mod ItemKinds
pub mod ItemsGiving
pub mod Nexts
pub mod Lines
pub mod Sharing
pub mod Fresh
pub mod Keeping
pub mod Running
