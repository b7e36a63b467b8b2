-- What a forecast promises of the quiet schedule: what a reader must believe. Assumes nothing.
pub mod Boundaries
pub mod Answers
