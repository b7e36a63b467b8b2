-- What an input asks, and the line of one that is refused. Assumes nothing.
pub mod Questions
pub mod Lines
