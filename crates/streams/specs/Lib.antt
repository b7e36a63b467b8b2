-- What a stream and a table of the code stand for. Assumes nothing.
pub mod Stands
pub mod Tables
