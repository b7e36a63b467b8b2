-- The model: what a reader must believe. Assumes nothing.
pub mod Streams
pub mod Tables
pub mod Fields
pub mod Layout
pub mod Spelling
pub mod Ready
pub mod Machine
pub mod Schedule
pub mod Tally
pub mod Bench
pub mod Forecast
pub mod Figures
