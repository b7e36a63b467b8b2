-- What a bench, its forecast and its figures stand for, what these print, and what a search finds. Assumes nothing.
pub mod Stands
pub mod Answers
pub mod Figures
pub mod Texts
pub mod Searches
