-- Each move of a buffer with queues keeps what is true of it.
pub mod Following
pub mod Issuing
pub mod Joining
pub mod Keeping
pub mod Filling
pub mod Draining
pub mod Followed
pub mod Finishing
pub mod Goes
pub mod Leading
pub mod Sending
pub mod Answering
pub mod Turning
pub mod Reordered
