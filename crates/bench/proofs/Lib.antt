-- Lemmas of the bench. Assumes nothing.
pub mod Quiet
pub mod Stretches
pub mod Advancing
pub mod Keeping
pub mod Walking
pub mod Agreeing
pub mod Searching
pub mod Foretelling
pub mod Figured
