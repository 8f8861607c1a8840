pub mod Expansion
pub mod Joins
pub mod Compositions
