-- What is true of the bus machine over whole runs. Assumes nothing.
pub mod Sound
pub mod Units
pub mod Runs
