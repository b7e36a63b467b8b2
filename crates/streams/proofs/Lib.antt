-- Facts on what the slots of a table stand for, and on a slot that is written. Assumes nothing.
pub mod Folds
pub mod Multiples
pub mod Periods
pub mod Products
pub mod Slots
pub mod Written
