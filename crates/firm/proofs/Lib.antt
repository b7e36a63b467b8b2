-- Laws of searches, of the ones of a history, and of the two distances. Assumes nothing.
pub mod Searching
pub mod Counting
pub mod Turning
pub mod Passing
