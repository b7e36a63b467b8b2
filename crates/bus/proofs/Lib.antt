-- Lemmas that the functions' proofs and other crates cite. Assumes nothing.
pub mod Frames
pub mod Leading
pub mod Walking
pub mod Writing
pub mod Choosing
pub mod Starting
pub mod Busy
pub mod Telling
pub mod Passing
pub mod Lawful
