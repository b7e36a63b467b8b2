-- Lemmas on the table, the sums and the counts. Assumes nothing.
pub mod Triangle
pub mod Sums
pub mod Counts
