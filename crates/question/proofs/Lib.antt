-- Lemmas for the questions of inputs. Assumes nothing.
pub mod Known
