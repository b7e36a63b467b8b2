-- The worked examples. Assumes nothing.
pub mod Cases
