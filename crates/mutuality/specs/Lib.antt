-- What the rules of this crate mean. Assumes nothing.
pub mod Margins
