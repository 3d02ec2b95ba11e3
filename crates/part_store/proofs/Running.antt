-- A request, an address or a token comes, and what is known of a run stays true.
pub mod Arriving
pub mod Coming
pub mod Bringing
pub mod Paying
pub mod After
pub mod Resting
pub mod Sought
pub mod Opening
