-- The definitions of the refusals. Assumes nothing.
pub mod Numbers
pub mod Texts
pub mod Tests
