-- What the values of this crate stand for, what its rules mean, and what the first of a list is. Assumes nothing.
pub mod Stands
pub mod Rules
pub mod Rankings
pub mod Orders
pub mod First
pub mod Failures
pub mod Texts
-- the machine, outside
pub mod Frames
pub mod Rows
pub mod States
pub mod Machines
pub mod Tallies
-- the machine, inside
pub mod Waiting
pub mod Endings
