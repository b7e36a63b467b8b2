-- What calls and benches stand for, and what a replay answers. Assumes nothing.
pub mod Stands
pub mod Replays
