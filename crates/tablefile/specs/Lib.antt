-- What the reader of a table file stands for, and the bits of a field map. Assumes nothing.
pub mod Bits
pub mod Stands
