-- Lemmas on the quiet schedule from a sound state, its boundaries and its failures. Assumes nothing.
pub mod Schedules
pub mod Boundaries
pub mod Drops
pub mod Settled
pub mod Passing
pub mod Failures
pub mod Further
pub mod Comes
pub mod Found
pub mod Firsts
pub mod Runs
pub mod Walks
pub mod Search
pub mod Onward
pub mod Answers
pub mod Single
