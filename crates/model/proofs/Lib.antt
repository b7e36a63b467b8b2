-- The laws of the least common multiple, of the two numbers of a table, of tallies and of runs. Assumes nothing.
pub mod Multiples
pub mod Periods
pub mod Counts
pub mod Limits
pub mod Changes
pub mod Tallies
pub mod Runs
