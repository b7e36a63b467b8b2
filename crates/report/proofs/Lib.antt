-- Lemmas for the printed bytes. Assumes nothing.
pub mod Asked
