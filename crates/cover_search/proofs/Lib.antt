pub mod Satisfying
pub mod Halves
pub mod Decided
pub mod Tying
