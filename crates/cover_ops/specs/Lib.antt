pub mod Shannon
pub mod Halves
pub mod Composed
