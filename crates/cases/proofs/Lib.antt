-- The proofs of the worked examples. Assumes nothing.
pub mod Forecasts
pub mod Examples
