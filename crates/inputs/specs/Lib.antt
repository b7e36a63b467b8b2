-- What is written for the inputs that are read. Assumes nothing.
pub mod Answers
