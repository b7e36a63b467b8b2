-- Proofs of the laws. Assumes nothing.
pub mod Slots
pub mod Frames
pub mod Candidates
pub mod Keeping
pub mod Streams
pub mod Leaving
pub mod Dropping
pub mod Units
pub mod Running
pub mod Held
pub mod Counts
pub mod Accounts
