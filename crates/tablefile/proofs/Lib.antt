-- Lemmas for the reader of the table file. Assumes nothing.
pub mod Parts
pub mod Walk
pub mod Cuts
pub mod Wide
pub mod Steps
pub mod Taking
pub mod Spelled
