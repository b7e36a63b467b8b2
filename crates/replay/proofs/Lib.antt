-- Lemmas on lists of calls. Assumes nothing.
pub mod Calls
