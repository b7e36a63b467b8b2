-- How a schedule comes round: what a reader must believe. Assumes nothing.
pub mod Rounds
pub mod Passing
pub mod Boundaries
