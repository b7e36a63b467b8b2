-- What an (m,k)-firm history means. Assumes nothing.
pub mod Outcomes
pub mod Searches
pub mod Histories
pub mod Stands
pub mod Laws
