-- Lemmas on sequences that come round, on lists of histories, and on a schedule that is moved in time. Assumes nothing.
pub mod Rounds
pub mod Pigeonhole
pub mod Passing
pub mod Shift
pub mod Steps
pub mod Boundaries
pub mod Returns
