-- What items, blocks and walks weigh, and how large a draft gets.
pub mod Weights
pub mod Weighs
pub mod ItemWeights
pub mod BlockWeights
pub mod EdgeWeights
pub mod Costs
pub mod Counts
pub mod Limits
