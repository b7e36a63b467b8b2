-- Lemmas for the answers of lines. Assumes nothing.
pub mod Reached
