-- What the program prints for an input. Assumes nothing.
pub mod Lines
pub mod Answers
