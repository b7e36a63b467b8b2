-- Binomial coefficients and what they count. Assumes nothing.
pub mod Choose
pub mod Pascal
